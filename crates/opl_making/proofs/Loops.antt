-- Parts made one behind another: of terms, and of the choices of an aggregate.
use Rattle.std.proofs.Common.{◌≡◌, ◌≢◌, ◌<◌, ◌≤◌, ℕ, ◌+◌, List, [], ◌∷◌, ◌++◌, length, map, drop, get_or, Some, Ok, Err, refl, ap, sym, subst, ◌∙◌}
use Rattle.std.proofs.lemmas.List.{at_drop_all, at_drop_more}
use Rattle.opl_term.specs.declared.term.Term.{Term}
use Rattle.opl_eval.specs.declared.fault.EvalFault.{EvalFault}
use Rattle.opl_eval.specs.declared.fault.EvalFault.TheVariants as faults
use Rattle.opl_eval.specs.Evaluation.{Environment}
use Rattle.opl_draft.specs.Drafts.{Draft}
use Rattle.opl_form.specs.Measures.{all_nodes}
use Rattle.opl_form.specs.Nodes.{Made, next}
use Rattle.opl_form.specs.Nodes.Fault.{eval}
use Rattle.opl_form.specs.Parts.{Form}
use Rattle.opl_groups.specs.Met.{Met, first}
use Rattle.opl_groups.specs.Met.Met.{chosen, stopped}
use Rattle.opl_nodes.specs.declared.context.Context.{Context}
use Rattle.opl_nodes.specs.declared.fault.FormFault.{FormFault}
use Rattle.opl_nodes.specs.declared.part.Part.{Part}
use Rattle.opl_nodes.specs.declared.parts.Parts.{Parts}
use Rattle.opl_nodes.specs.Pieces.{AreParts, Refuses, form, forms, told}
use Rattle.opl_unfolding.specs.Onto.{Maker, onto}
use Rattle.opl_unfolding.specs.Unrolling.{body_met}
use Rattle.opl_making.specs.declared.site.Site.{Site}
use Rattle.opl_making.specs.Sites.{AreMade, MakesForms, SoFar, behind, items, names, operand_maker, reached}
use Rattle.opl_making.proofs.Next.{part-refused, refused, refuses-same, refuses-told}

module _ (c : Context) (make : Maker) (n : ℕ) (whole : Made (List Form)) where
  so-same : (ps : Parts) (ds es : List Draft) → ds ≡ es → SoFar c make n whole ps ds → SoFar c make n whole ps es
  so-same ps ds es e h = subst (SoFar c make n whole ps) e h

  -- at the end all are made
  pub so-end : (ps : Parts) → SoFar c make n whole ps [] → AreMade c n whole ps
  so-end ps h = record { are_forms = h.same; before = h.before; are_parts = h.are_parts }

  next-behind : (gs after : List Form) (m : Made Form) (ds : List Draft) → behind gs m ≡ Ok after → next m (λ g. onto make n (gs ++ g ∷ []) ds) ≡ onto make n after ds
  next-behind gs after (Ok g) ds h = let e : gs ++ g ∷ [] ≡ after = cc in ap (λ fs. onto make n fs ds) e
  next-behind gs after (Err e) ds h = cc

  -- one more is made
  pub so-next : (ps qs : Parts) (d : Draft) (ds : List Draft) → SoFar c make n whole ps (d ∷ ds) → AreMade c ps.before (behind (forms ps.items) (make (reached ps) d)) qs → SoFar c make n whole qs ds
  so-next ps qs d ds h k = record {
    same =
        h.same
        ∙ next-behind (forms ps.items) (forms qs.items) (make (n + all_nodes (forms ps.items)) d) ds
        (ap (λ b. behind (forms ps.items) (make (b + all_nodes (forms ps.items)) d)) (sym h.before) ∙ k.are_forms);
    before = k.before ∙ h.before;
    are_parts = k.are_parts;
  }

  -- or it has a fault
  pub so-stop : (ps : Parts) (d : Draft) (ds : List Draft) (fault : FormFault) → SoFar c make n whole ps (d ∷ ds) → Refuses {A = List Form} (behind (forms ps.items) (make (reached ps) d)) fault → Refuses {A = List Form} whole fault
  so-stop ps d ds fault h k =
      let m : Made Form = make (n + all_nodes (forms ps.items)) d in
      refuses-same (List Form) (next m (λ g. onto make n (forms ps.items ++ g ∷ []) ds)) whole fault (sym h.same)
      (refused Form (List Form) m (λ g. onto make n (forms ps.items ++ g ∷ []) ds) fault
      (part-refused Form (List Form) m (λ g. forms ps.items ++ g ∷ []) fault
      (refuses-same (List Form) (behind (forms ps.items) (make (reached ps) d)) (behind (forms ps.items) m) fault (ap (λ b. behind (forms ps.items) (make (b + all_nodes (forms ps.items)) d)) h.before) k)))

  -- ---- of terms

  module _ (f : Term → Draft) (xs : List Term) (i : ℕ) (ps : Parts) (so : SoFar c make n whole ps (map f (drop i xs))) where
    here : (x : Term) → i < length xs → x ≡ get_or xs i x → SoFar c make n whole ps (f x ∷ map f (drop (i + 1) xs))
    here x more e =
        so-same ps (map f (drop i xs)) (f x ∷ map f (drop (i + 1) xs)) (at_drop_more (λ ys. map f ys) xs i x more ∙ ap (λ y. f y ∷ map f (drop (i + 1) xs)) (sym e)) so

    pub terms-next : (x : Term) (qs : Parts) → i < length xs → x ≡ get_or xs i x → AreMade c ps.before (behind (forms ps.items) (make (reached ps) (f x))) qs → SoFar c make n whole qs (map f (drop (i + 1) xs))
    terms-next x qs more e k = so-next ps qs (f x) (map f (drop (i + 1) xs)) (here x more e) k

    pub terms-stop : (x : Term) (fault : FormFault) → i < length xs → x ≡ get_or xs i x → Refuses {A = List Form} (behind (forms ps.items) (make (reached ps) (f x))) fault → Refuses {A = List Form} whole fault
    terms-stop x fault more e k = so-stop ps (f x) (map f (drop (i + 1) xs)) fault (here x more e) k

    pub terms-end : length xs ≤ i → AreMade c n whole ps
    terms-end h = so-end ps (so-same ps (map f (drop i xs)) [] (at_drop_all (λ ys. map f ys) xs i h) so)

-- at first nothing is made
pub so-begin : (c : Context) (make : Maker) (n : ℕ) (ps : Parts) (ds : List Draft) → ps.items ≡ [] → ps.before ≡ n → AreParts c ps → SoFar c make n (onto make n [] ds) ps ds
so-begin c make n ps ds e h k = record { same = ap (λ qs. onto make n (forms qs) ds) (sym e); before = h; are_parts = k }

-- ---- of choices

stop-here : (s : Site) (t : Term) (n : ℕ) (before : List Form) (ms : List Met) (fault : EvalFault) → first ms ≡ Some (stopped fault) →
    onto (operand_maker s) n before (map (body_met (items s) (names s) t) ms) ≡ Err (eval fault)
stop-here s t n before [] fault e = cc
stop-here s t n before (chosen env ∷ ms) fault e = cc
stop-here s t n before (stopped own ∷ ms) fault e = let h : own ≡ fault = cc in ap (λ f. Err (eval f)) h

module _ (s : Site) (t : Term) (n : ℕ) (whole : Made (List Form)) (ms : List Met) (ps : Parts)
    (so : SoFar s.context.now (operand_maker s) n whole ps (map (body_met (items s) (names s) t) ms)) where
  met-here : (env : Environment) (after : List Met) → ms ≡ chosen env ∷ after →
      SoFar s.context.now (operand_maker s) n whole ps (body_met (items s) (names s) t (chosen env) ∷ map (body_met (items s) (names s) t) after)
  met-here env after e = so-same s.context.now (operand_maker s) n whole ps _ _ (ap (map (body_met (items s) (names s) t)) e) so

  pub met-next : (env : Environment) (after : List Met) (qs : Parts) → ms ≡ chosen env ∷ after → AreMade s.context.now ps.before (behind (forms ps.items) (operand_maker s (reached ps) (body_met (items s) (names s) t (chosen env)))) qs →
      SoFar s.context.now (operand_maker s) n whole qs (map (body_met (items s) (names s) t) after)
  met-next env after qs e k = so-next s.context.now (operand_maker s) n whole ps qs (body_met (items s) (names s) t (chosen env)) (map (body_met (items s) (names s) t) after) (met-here env after e) k

  pub met-stop : (env : Environment) (after : List Met) (fault : FormFault) → ms ≡ chosen env ∷ after → Refuses {A = List Form} (behind (forms ps.items) (operand_maker s (reached ps) (body_met (items s) (names s) t (chosen env)))) fault →
      Refuses {A = List Form} whole fault
  met-stop env after fault e k = so-stop s.context.now (operand_maker s) n whole ps (body_met (items s) (names s) t (chosen env)) (map (body_met (items s) (names s) t) after) fault (met-here env after e) k

  pub met-end : ms ≡ [] → AreMade s.context.now n whole ps
  met-end e = so-end s.context.now (operand_maker s) n whole ps (so-same s.context.now (operand_maker s) n whole ps _ _ (ap (map (body_met (items s) (names s) t)) e) so)

  -- the choices stop with a fault
  pub met-fault : (fault : EvalFault) → (fault ≢ faults.OutOfMemory → first ms ≡ Some (stopped fault)) → Refuses {A = List Form} whole (told fault)
  met-fault fault h = refuses-told (List Form) whole fault (λ ne. so.same ∙ stop-here s t n (forms ps.items) ms fault (h ne))
