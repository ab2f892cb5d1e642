-- Products and chains of parts.
use Rattle.std.proofs.Common.{◌≡◌, ℕ, suc, ◌+◌, ℤ, pos, ◌+ℤ◌, true, false, List, [], ◌∷◌, ◌++◌, length, get_or, map, is_some, Result, Ok, Err, refl, sym, ap, subst, ◌∙◌, arith}
use Rattle.std.specs.Prelude.{IfOk}
use Rattle.std.specs.List.{All}
use Rattle.std.proofs.lemmas.Int.{ints}
use Rattle.std.proofs.lemmas.List.{map-append}
use Rattle.std.proofs.lemmas.List.Elements.{All-head}
use Rattle.opl_value.specs.declared.value.Value.{Value}
use Rattle.opl_value.specs.declared.value.Value.TheVariants as values
use Rattle.opl_eval.specs.declared.arithmetic.Operation.TheVariants.{Plus}
use Rattle.opl_eval.specs.Arithmetic as arithmetic
use Rattle.opl_eval.specs.Arithmetic.{IsSmall, run, then}
use Rattle.opl_eval.specs.Compare as compare
use Rattle.opl_eval.specs.Evaluation.{integer}
use Rattle.opl_eval.proofs.Sized.{sized-small}
use Rattle.opl_expr.specs.declared.forms.Expr.TheVariants as E
use Rattle.opl_form.specs.Measures.{all_nodes}
use Rattle.opl_form.specs.Parts.{Form, all_known, as_number}
use Rattle.opl_form.specs.Nodes as making
use Rattle.opl_form.specs.Nodes.{Made, chain_of, evaluated, known_node, multiplied, next, number_node, number_part, product_from}
use Rattle.opl_nodes.specs.declared.context.Context.{Context}
use Rattle.opl_nodes.specs.declared.fault.FormFault.{FormFault}
use Rattle.opl_nodes.specs.declared.fault.FormFault.TheVariants.{Depth, Eval, Nodes, OutOfMemory, TooLarge}
use Rattle.opl_nodes.specs.declared.part.Part.{Part}
use Rattle.opl_nodes.specs.declared.parts.Parts.{Parts}
use Rattle.opl_nodes.specs.Contexts.{arrays, sets}
use Rattle.opl_nodes.specs.Pieces.{AreParts, IsPart, Makes, Refuses, form, forms}
use Rattle.opl_numbers.specs.Numbers.{AreMade, MakesParts, number_of}
use Rattle.opl_numbers.proofs.Folds.{folded-all, live-all, numbers-known}
use Rattle.opl_numbers.proofs.Small.{part-small}

-- ---- faults

-- what is refused, is refused with all that was to come
pub refuses-next : {A B : Type 0} (r : Made A) (f : A → Made B) (fault : FormFault) → Refuses r fault → Refuses (next r f) fault
refuses-next r f OutOfMemory h = tt
refuses-next r f (Eval fault) h = ap (λ r. next r f) h
refuses-next r f (TooLarge at) h = ap (λ r. next r f) h
refuses-next r f (Depth at) h = ap (λ r. next r f) h
refuses-next r f (Nodes at) h = ap (λ r. next r f) h

pub refuses-same : {A : Type 0} (a b : Made A) (fault : FormFault) → a ≡ b → Refuses a fault → Refuses b fault
refuses-same a b fault e h = subst (λ r. Refuses r fault) e h

pub parts-same : (c : Context) (n : ℕ) (a b : Made making.Parts) (r : Result Parts FormFault) → a ≡ b → MakesParts c n a r → MakesParts c n b r
parts-same c n a b r e h = subst (λ m. MakesParts c n m r) e h

-- ---- the sum of a first part and others

zero-plus : (z : ℤ) → pos 0 +ℤ z ≡ z
zero-plus z = omega (arith, ints)

chain-sum : (at : ℕ) (vs : List Value) (ns : List ℤ) → map compare.number vs ≡ ns → ((n : ℤ) (ms : List ℤ) → ns ≡ n ∷ ms → IsSmall n) → chain_of at vs ≡ integer (arithmetic.sum at ns)
chain-sum at [] ns e s = ap (λ ns. integer (arithmetic.sum at ns)) e
chain-sum at (v ∷ vs) ns e s =
    let n : ℤ = compare.number v in
    let ms : List ℤ = map compare.number vs in
    ap (λ r. integer (then r (λ b. run at b (map Plus ms)))) (sym (ap (arithmetic.sized at) (zero-plus n) ∙ sized-small at n (s n ms (sym e)))) ∙ ap (λ ns. integer (arithmetic.sum at ns)) e

first-small : (c : Context) (ps : List Part) → All (IsPart c) ps → (n : ℤ) (ms : List ℤ) → map number_of (forms ps) ≡ n ∷ ms → IsSmall n
first-small c [] h n ms e = absurd (cc)
first-small c (p ∷ ps) h n ms e = let same : number_of (form p) ≡ n = cc in subst IsSmall same (part-small c p (All-head (IsPart c) p ps h))

-- a first part and others, with one more behind them
abbrev pub behind : Form → List Form → Form → Made making.Parts
behind g hs h = Ok (g, hs ++ h ∷ [])

-- a part alone
pub alone-is : (ps : List Part) (p : Part) (g : Form) (hs : List Form) → length ps ≡ 1 → p ≡ get_or ps 0 p → forms ps ≡ g ∷ hs → (form p ≡ g) × (hs ≡ [])
alone-is [] p g hs l e f = absurd (omega arith)
alone-is (q ∷ []) p g hs l e f = (ap form e ∙ cc, cc)
alone-is (q ∷ r ∷ ps) p g hs l e f = absurd (omega arith)

one-form : (ps : List Part) → length (forms ps) ≡ length ps
one-form [] = refl
one-form (p ∷ ps) = ap suc (one-form ps)

-- not one alone
not-one : (ps : List Part) (g : Form) → (length ps ≡ 1 → ⊥) → forms ps ≡ g ∷ [] → ⊥
not-one ps g k e = k (sym (one-form ps) ∙ ap (λ gs. length gs) e)

module _ (c : Context) where
  chained-known : (at n : ℕ) (gs : List Form) (g : Form) (hs : List Form) → gs ≡ g ∷ hs → (hs ≡ [] → ⊥) → ((m : ℤ) (ms : List ℤ) → map number_of (g ∷ hs) ≡ m ∷ ms → IsSmall m) → is_some (all_known (g ∷ hs)) ≡ true →
      evaluated c.item n (integer (arithmetic.sum at (map number_of (g ∷ hs)))) ≡ making.chained (sets c) (arrays c) c.item at n g hs
  chained-known at n gs g [] e k s h = absurd (k refl)
  chained-known at n gs g (i ∷ hs) e k s h =
      sym (folded-all c.item n (g ∷ i ∷ hs) (chain_of at) (number_node (sets c) (arrays c) c.item at n (E.Sum (map as_number (g ∷ i ∷ hs)))) (integer (arithmetic.sum at (map number_of (g ∷ i ∷ hs))))
      (λ vs f. chain-sum at vs (map number_of (g ∷ i ∷ hs)) (numbers-known (g ∷ i ∷ hs) vs f) s) h)

  chained-live : (at n : ℕ) (g : Form) (hs : List Form) → (hs ≡ [] → ⊥) → is_some (all_known (g ∷ hs)) ≡ false → number_node (sets c) (arrays c) c.item at n (E.Sum (map as_number (g ∷ hs))) ≡ making.chained (sets c) (arrays c) c.item at n g hs
  chained-live at n g [] k h = absurd (k refl)
  chained-live at n g (i ∷ hs) k h = sym (live-all c.item n (all_known (g ∷ i ∷ hs)) (chain_of at) (number_node (sets c) (arrays c) c.item at n (E.Sum (map as_number (g ∷ i ∷ hs)))) h)

  pub parts-chained-known : (at n : ℕ) (ps : List Part) (g : Form) (hs : List Form) → All (IsPart c) ps → (length ps ≡ 1 → ⊥) → is_some (all_known (forms ps)) ≡ true → forms ps ≡ g ∷ hs →
      evaluated c.item n (integer (arithmetic.sum at (map number_of (forms ps)))) ≡ making.chained (sets c) (arrays c) c.item at n g hs
  parts-chained-known at n ps g hs all k h e =
      ap (λ gs. evaluated c.item n (integer (arithmetic.sum at (map number_of gs)))) e
      ∙ chained-known at n (forms ps) g hs e (λ f. not-one ps g k (e ∙ ap (λ hs. g ∷ hs) f)) (λ m ms f. first-small c ps all m ms (ap (map number_of) e ∙ f)) (ap (λ gs. is_some (all_known gs)) (sym e) ∙ h)

  pub parts-chained-live : (at n : ℕ) (ps : List Part) (g : Form) (hs : List Form) → (length ps ≡ 1 → ⊥) → is_some (all_known (forms ps)) ≡ false → forms ps ≡ g ∷ hs →
      number_node (sets c) (arrays c) c.item at n (E.Sum (map as_number (forms ps))) ≡ making.chained (sets c) (arrays c) c.item at n g hs
  parts-chained-live at n ps g hs k h e =
      ap (λ gs. number_node (sets c) (arrays c) c.item at n (E.Sum (map as_number gs))) e
      ∙ chained-live at n g hs (λ f. not-one ps g k (e ∙ ap (λ hs. g ∷ hs) f)) (ap (λ gs. is_some (all_known gs)) (sym e) ∙ h)

  pub alone-chained : (at n : ℕ) (ps : List Part) (p : Part) (g : Form) (hs : List Form) → length ps ≡ 1 → p ≡ get_or ps 0 p → forms ps ≡ g ∷ hs → number_part (sets c) (arrays c) c.item at n (form p) ≡ making.chained (sets c) (arrays c) c.item at n g hs
  alone-chained at n ps p g hs l e f =
      let is = alone-is ps p g hs l e f in
      ap (λ g. making.chained (sets c) (arrays c) c.item at n g []) is.0 ∙ ap (λ hs. making.chained (sets c) (arrays c) c.item at n g hs) (sym is.1)

  -- ---- products

  pub product-next : (at n : ℕ) (g h k : Form) (gs : List Form) → multiplied (sets c) (arrays c) c.item at n g h ≡ Ok k → product_from (sets c) (arrays c) c.item at n g (h ∷ gs) ≡ product_from (sets c) (arrays c) c.item at n k gs
  product-next at n g h k gs e = ap (λ r. next r (λ k. product_from (sets c) (arrays c) c.item at n k gs)) e

  pub product-stop : (at n : ℕ) (g h : Form) (gs : List Form) (fault : FormFault) → Refuses (multiplied (sets c) (arrays c) c.item at n g h) fault → Refuses (product_from (sets c) (arrays c) c.item at n g (h ∷ gs)) fault
  product-stop at n g h gs fault r = refuses-next (multiplied (sets c) (arrays c) c.item at n g h) (λ k. product_from (sets c) (arrays c) c.item at n k gs) fault r

  pub product-none : (at n : ℕ) (ps : List Part) → ps ≡ [] → known_node c.item n (values.Int (pos 1)) ≡ making.product (sets c) (arrays c) c.item at n (forms ps)
  product-none at n [] h = refl
  product-none at n (p ∷ ps) h = cc

  -- ---- steps

  pub lessened-is : (own n m : ℕ) (ps : List Part) (g : Form) (hs : List Form) (p : Form) → m ≡ n + all_nodes (forms ps) → forms ps ≡ g ∷ hs →
      next (making.negated (sets c) (arrays c) c.item own m p) (behind g hs) ≡ next (making.negated (sets c) (arrays c) c.item own (n + all_nodes (g ∷ hs)) p) (behind g hs)
  lessened-is own n m ps g hs p h e = ap (λ m. next (making.negated (sets c) (arrays c) c.item own m p) (behind g hs)) (h ∙ ap (λ gs. n + all_nodes gs) e)

  pub added-made : (ps qs : Parts) (p : Part) (g : Form) (hs : List Form) → qs.items ≡ ps.items ++ p ∷ [] → qs.before ≡ ps.before → AreParts c qs → forms ps.items ≡ g ∷ hs → AreMade c ps.before (Ok (g, hs ++ form p ∷ [])) qs
  added-made ps qs p g hs e f h k = record {
    first = g;
    others = hs ++ form p ∷ [];
    is_made = refl;
    are_forms = ap forms e ∙ map-append form ps.items (p ∷ []) ∙ ap (λ gs. gs ++ form p ∷ []) k;
    before = f;
    are_parts = h;
  }

  pub begun-made : (n : ℕ) (ps qs : Parts) (p : Part) → ps.items ≡ [] → ps.before ≡ n → qs.items ≡ ps.items ++ p ∷ [] → qs.before ≡ ps.before → AreParts c qs → AreMade c n (Ok (form p, [])) qs
  begun-made n ps qs p d b e f h = record {
    first = form p;
    others = [];
    is_made = refl;
    are_forms = ap forms (e ∙ ap (λ xs. xs ++ p ∷ []) d);
    before = f ∙ b;
    are_parts = h;
  }

  pub made-part : (a : Made Form) (r : Result Part FormFault) → Makes c a r → IfOk r (λ p. IsPart c p)
  made-part a (Ok p) h = h.is_part
  made-part a (Err fault) h = tt
