-- The steps of a chain taken up one behind another.
use Rattle.std.proofs.Common.{◌≡◌, ◌<◌, ◌≤◌, ℕ, ◌+◌, List, [], ◌∷◌, length, map, drop, get_or, Ok, Err, refl, ap, sym, subst, ◌∙◌}
use Rattle.std.proofs.lemmas.List.{at_drop_all, at_drop_more}
use Rattle.opl_term.specs.declared.term.Step.{Step}
use Rattle.opl_draft.specs.Drafts.{DraftStep, steps_of}
use Rattle.opl_form.specs.Made.{made_steps, place}
use Rattle.opl_form.specs.Nodes as nodes
use Rattle.opl_form.specs.Nodes.{Made, next, parts_nodes, stepped}
use Rattle.opl_nodes.specs.declared.fault.FormFault.{FormFault}
use Rattle.opl_nodes.specs.declared.parts.Parts.{Parts}
use Rattle.opl_nodes.specs.Contexts.{arrays, sets}
use Rattle.opl_nodes.specs.Pieces.{AreParts, Refuses, forms}
use Rattle.opl_making.specs.declared.site.Site.{Site}
use Rattle.opl_making.specs.Sites.{AreSummed, StepsSoFar, operand_maker, step_maker, steps_maker}
use Rattle.opl_making.proofs.Next.{next-out, refused, refuses-same}

module _ (s : Site) (at n : ℕ) where
  steps-out : (ps : nodes.Parts) (d : DraftStep) (ds : List DraftStep) → steps_maker s at n ps (d ∷ ds) ≡ next (step_maker s at n ps d) (λ qs. steps_maker s at n qs ds)
  steps-out ps d ds =
      sym (next-out (operand_maker s (n + parts_nodes ps) d.operand) (λ g. stepped (sets s.context.now) (arrays s.context.now) s.context.now.item d.sign at (place d.operand) n ps g) (λ qs. steps_maker s at n qs ds))

  pub steps-begin : (sum : nodes.Parts) (ps : Parts) (ds : List DraftStep) → forms ps.items ≡ sum.0 ∷ sum.1 → ps.before ≡ n → AreParts s.context.now ps → StepsSoFar s at n (steps_maker s at n sum ds) ps ds
  steps-begin sum ps ds e h k = record { sum = sum; same = refl; are_forms = e; before = h; are_parts = k }

  module _ (whole : Made nodes.Parts) where
    so-same : (ps : Parts) (ds es : List DraftStep) → ds ≡ es → StepsSoFar s at n whole ps ds → StepsSoFar s at n whole ps es
    so-same ps ds es e h = subst (StepsSoFar s at n whole ps) e h

    so-end : (ps : Parts) → StepsSoFar s at n whole ps [] → AreSummed s.context.now n whole ps
    so-end ps h = record { sum = h.sum; is_made = h.same; are_forms = h.are_forms; before = h.before; are_parts = h.are_parts }

    so-next : (ps qs : Parts) (d : DraftStep) (ds : List DraftStep) (h : StepsSoFar s at n whole ps (d ∷ ds)) → AreSummed s.context.now ps.before (step_maker s at ps.before h.sum d) qs → StepsSoFar s at n whole qs ds
    so-next ps qs d ds h k = record {
      sum = k.sum;
      same = h.same ∙ steps-out h.sum d ds ∙ ap (λ r. next r (λ qs. steps_maker s at n qs ds)) (ap (λ b. step_maker s at b h.sum d) (sym h.before) ∙ k.is_made);
      are_forms = k.are_forms;
      before = k.before ∙ h.before;
      are_parts = k.are_parts;
    }

    so-stop : (ps : Parts) (d : DraftStep) (ds : List DraftStep) (fault : FormFault) (h : StepsSoFar s at n whole ps (d ∷ ds)) → Refuses {A = nodes.Parts} (step_maker s at ps.before h.sum d) fault → Refuses {A = nodes.Parts} whole fault
    so-stop ps d ds fault h k =
        refuses-same nodes.Parts (next (step_maker s at n h.sum d) (λ qs. steps_maker s at n qs ds)) whole fault (sym (h.same ∙ steps-out h.sum d ds))
        (refused nodes.Parts nodes.Parts (step_maker s at n h.sum d) (λ qs. steps_maker s at n qs ds) fault
        (refuses-same nodes.Parts (step_maker s at ps.before h.sum d) (step_maker s at n h.sum d) fault (ap (λ b. step_maker s at b h.sum d) h.before) k))

    module _ (f : Step → DraftStep) (xs : List Step) (i : ℕ) (ps : Parts) (so : StepsSoFar s at n whole ps (map f (drop i xs))) where
      pub steps-here : (x : Step) → i < length xs → x ≡ get_or xs i x → StepsSoFar s at n whole ps (f x ∷ map f (drop (i + 1) xs))
      steps-here x more e =
          so-same ps (map f (drop i xs)) (f x ∷ map f (drop (i + 1) xs)) (at_drop_more (λ ys. map f ys) xs i x more ∙ ap (λ y. f y ∷ map f (drop (i + 1) xs)) (sym e)) so

      pub steps-next : (x : Step) (qs : Parts) (more : i < length xs) (e : x ≡ get_or xs i x) → AreSummed s.context.now ps.before (step_maker s at ps.before (steps-here x more e).sum (f x)) qs → StepsSoFar s at n whole qs (map f (drop (i + 1) xs))
      steps-next x qs more e k = so-next ps qs (f x) (map f (drop (i + 1) xs)) (steps-here x more e) k

      pub steps-stop : (x : Step) (fault : FormFault) (more : i < length xs) (e : x ≡ get_or xs i x) → Refuses {A = nodes.Parts} (step_maker s at ps.before (steps-here x more e).sum (f x)) fault → Refuses {A = nodes.Parts} whole fault
      steps-stop x fault more e k = so-stop ps (f x) (map f (drop (i + 1) xs)) fault (steps-here x more e) k

      pub steps-end : length xs ≤ i → AreSummed s.context.now n whole ps
      steps-end h = so-end ps (so-same ps (map f (drop i xs)) [] (at_drop_all (λ ys. map f ys) xs i h) so)
