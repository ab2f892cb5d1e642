-- What follows from forms that are made, and from faults.
use Rattle.std.proofs.Common.{◌≡◌, ◌≢◌, ℕ, List, [], ◌∷◌, ◌++◌, Result, Ok, Err, refl, ap, sym, subst, ◌∙◌}
use Rattle.opl_eval.specs.declared.fault.EvalFault.{EvalFault}
use Rattle.opl_eval.specs.declared.fault.EvalFault.TheVariants as faults
use Rattle.opl_form.specs.Nodes as nodes
use Rattle.opl_form.specs.Nodes.{Made, next}
use Rattle.opl_form.specs.Nodes.Fault.{eval}
use Rattle.opl_form.specs.Parts.{Form}
use Rattle.opl_nodes.specs.declared.context.Context.{Context}
use Rattle.opl_nodes.specs.declared.fault.FormFault.{FormFault}
use Rattle.opl_nodes.specs.declared.fault.FormFault.TheVariants.{Eval, TooLarge, Depth, Nodes, OutOfMemory}
use Rattle.opl_nodes.specs.declared.part.Part.{Part}
use Rattle.opl_nodes.specs.declared.parts.Parts.{Parts}
use Rattle.opl_nodes.specs.Pieces.{IsMade, Makes, Refuses, form, forms, told}
use Rattle.opl_making.specs.Sites.{AreMade, MakesForms, MakesSum}

pub next-out : {A B C : Type 0} (r : Made A) (f : A → Made B) (g : B → Made C) → next (next r f) g ≡ next r (λ x. next (f x) g)
next-out (Ok x) f g = refl
next-out (Err e) f g = refl

-- ---- faults

-- a fault of a part is that of the whole
pub refused : (A B : Type 0) (m : Made A) (f : A → Made B) (fault : FormFault) → Refuses {A = A} m fault → Refuses {A = B} (next m f) fault
refused A B m f (Eval e) h = ap (λ (m : Made A). next m f) h
refused A B m f (TooLarge at) h = ap (λ (m : Made A). next m f) h
refused A B m f (Depth at) h = ap (λ (m : Made A). next m f) h
refused A B m f (Nodes at) h = ap (λ (m : Made A). next m f) h
refused A B m f OutOfMemory h = tt

-- a fault of what always goes on is that of the part
own-fault : (A B : Type 0) (m : Made A) (f : A → B) (e : nodes.Fault) → next m (λ g. Ok (f g)) ≡ Err e → m ≡ Err e
own-fault A B (Ok g) f e h = cc
own-fault A B (Err d) f e h = cc

pub part-refused : (A B : Type 0) (m : Made A) (f : A → B) (fault : FormFault) → Refuses {A = B} (next m (λ g. Ok (f g))) fault → Refuses {A = A} m fault
part-refused A B m f (Eval e) h = own-fault A B m f _ h
part-refused A B m f (TooLarge at) h = own-fault A B m f _ h
part-refused A B m f (Depth at) h = own-fault A B m f _ h
part-refused A B m f (Nodes at) h = own-fault A B m f _ h
part-refused A B m f OutOfMemory h = tt

-- the same is refused
pub refuses-same : (A : Type 0) (a b : Made A) (fault : FormFault) → a ≡ b → Refuses {A = A} a fault → Refuses {A = A} b fault
refuses-same A a b fault e h = subst (λ (m : Made A). Refuses {A = A} m fault) e h

-- want of memory can come at any time
pub refuses-memory : (A : Type 0) (m : Made A) (fault : FormFault) → fault ≡ OutOfMemory → Refuses {A = A} m fault
refuses-memory A m fault e = subst (λ (f : FormFault). Refuses {A = A} m f) (sym e) tt

-- a fault of data
pub refuses-told : (A : Type 0) (m : Made A) (fault : EvalFault) → (fault ≢ faults.OutOfMemory → m ≡ Err (eval fault)) → Refuses {A = A} m (told fault)
refuses-told A m (faults.DivByZero at) h = h (λ e. cc)
refuses-told A m (faults.OutOfIndex at) h = h (λ e. cc)
refuses-told A m (faults.TooLarge at) h = h (λ e. cc)
refuses-told A m (faults.EmptyMinMax at) h = h (λ e. cc)
refuses-told A m faults.OutOfMemory h = tt

-- ---- forms

module _ (c : Context) where
  -- what follows from a part
  pub part-made : (m : Made Form) (f : Form → Made Form) (p : Part) (r : Result Part FormFault) → IsMade c m p → Makes c (f (form p)) r → Makes c (next m f) r
  part-made m f p r h k = subst (λ (m : Made Form). Makes c (next m f) r) (sym h.is_form) k

  pub part-forms : (n : ℕ) (m : Made Form) (f : Form → Made (List Form)) (p : Part) (r : Result Parts FormFault) → IsMade c m p → MakesForms c n (f (form p)) r → MakesForms c n (next m f) r
  part-forms n m f p r h k = subst (λ (m : Made Form). MakesForms c n (next m f) r) (sym h.is_form) k

  pub part-sum : (n : ℕ) (m : Made Form) (f : Form → Made nodes.Parts) (p : Part) (r : Result Parts FormFault) → IsMade c m p → MakesSum c n (f (form p)) r → MakesSum c n (next m f) r
  part-sum n m f p r h k = subst (λ (m : Made Form). MakesSum c n (next m f) r) (sym h.is_form) k

  -- what follows from parts
  pub parts-made : (n : ℕ) (m : Made (List Form)) (f : ℕ → List Form → Made Form) (ps : Parts) (r : Result Part FormFault) → AreMade c n m ps → Makes c (f ps.before (forms ps.items)) r → Makes c (next m (f n)) r
  parts-made n m f ps r h k =
      subst (λ (m : Made (List Form)). Makes c (next m (f n)) r) (sym h.are_forms) (subst (λ (b : ℕ). Makes c (f b (forms ps.items)) r) h.before k)

  -- the same is made
  pub makes-same : (a b : Made Form) (r : Result Part FormFault) → a ≡ b → Makes c a r → Makes c b r
  makes-same a b r e h = subst (λ (m : Made Form). Makes c m r) e h

  pub forms-same : (n : ℕ) (a b : Made (List Form)) (r : Result Parts FormFault) → a ≡ b → MakesForms c n a r → MakesForms c n b r
  forms-same n a b r e h = subst (λ (m : Made (List Form)). MakesForms c n m r) e h

  pub sum-same : (n : ℕ) (a b : Made nodes.Parts) (r : Result Parts FormFault) → a ≡ b → MakesSum c n a r → MakesSum c n b r
  sum-same n a b r e h = subst (λ (m : Made nodes.Parts). MakesSum c n m r) e h
