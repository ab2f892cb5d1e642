-- What functions that make forms answer, by what is made of parts.
use Rattle.std.proofs.Common.{◌≡◌, ◌<◌, ◌≤◌, ℕ, ◌+◌, List, [], ◌∷◌, ◌++◌, length, map, drop, get_or, true, Result, Ok, Err, refl, ap, sym, subst, ◌∙◌}
use Rattle.std.proofs.lemmas.List.{at_drop_all, at_drop_more}
use Rattle.opl_term.specs.declared.term.Term.{Term}
use Rattle.opl_value.specs.declared.value.Value.TheVariants as values
use Rattle.opl_draft.specs.Drafts.{Draft, DraftStep, Sign, drafts_of}
use Rattle.opl_form.specs.Made.{place}
use Rattle.opl_form.specs.Measures.{all_nodes, part_nodes}
use Rattle.opl_form.specs.Nodes as nodes
use Rattle.opl_form.specs.Nodes.{Made, next, parts_nodes}
use Rattle.opl_form.specs.Parts.{Form}
use Rattle.opl_nodes.specs.declared.context.Context.{Context}
use Rattle.opl_nodes.specs.declared.fault.FormFault.{FormFault}
use Rattle.opl_nodes.specs.declared.part.Part.{Part}
use Rattle.opl_nodes.specs.declared.parts.Parts.{Parts}
use Rattle.opl_nodes.specs.Contexts.{arrays, sets}
use Rattle.opl_nodes.specs.Pieces.{AreParts, IsMade, IsPart, Makes, Refuses, form, forms}
use Rattle.opl_unfolding.specs.Onto.{Maker}
use Rattle.opl_making.specs.declared.site.Site.{Site}
use Rattle.opl_making.specs.Places.{place_or}
use Rattle.opl_making.specs.Sites.{AreMade, AreSome, AreSummed, MakesForms, MakesSum, behind, first_maker, maker, operand_maker, reached, same_maker, same_step, step_maker, truth_maker}
use Rattle.opl_making.proofs.Next.{forms-same, makes-same, next-out, part-forms, part-made, part-refused, refused, refuses-same, sum-same}
use Rattle.opl_making.proofs.DraftPlaces.{operand-at, own-place}

-- ---- one part

-- a part in an arithmetic place
pub operand-part : (s : Site) (n at : ℕ) (d : Draft) (p : Part) (r : Result Part FormFault) → place_or at d ≡ at → IsMade s.context.now (maker s n d) p → Makes s.context.now (nodes.operand s.context.now.item at n (form p)) r →
    Makes s.context.now (operand_maker s n d) r
operand-part s n at d p r e h k =
    makes-same s.context.now (nodes.as_operand s.context.now.item at n (maker s n d)) (operand_maker s n d) r (operand-at (sets s.context.now) (arrays s.context.now) s.context.now.item n at d e)
    (part-made s.context.now (maker s n d) (λ g. nodes.operand s.context.now.item at n g) p r h k)

module _ (c : Context) where
  -- ---- a second part

  behind-first : (n k : ℕ) (p : Part) → k ≡ n + p.nodes → IsPart c p → k ≡ n + part_nodes (form p)
  behind-first n k p e h = e ∙ ap (λ m. n + m) h.nodes

  pub second-made : (make : Maker) (n k : ℕ) (d : Draft) (F : Form → Made Form) (p q : Part) (r : Result Part FormFault) → k ≡ n + p.nodes → IsPart c p → IsMade c (make k d) q → Makes c (F (form q)) r →
      Makes c (next (make (n + part_nodes (form p)) d) F) r
  second-made make n k d F p q r e h i j =
      makes-same c (next (make k d) F) (next (make (n + part_nodes (form p)) d) F) r (ap (λ b. next (make b d) F) (behind-first n k p e h)) (part-made c (make k d) F q r i j)

  pub second-refused : (make : Maker) (n k : ℕ) (d : Draft) (F : Form → Made Form) (p : Part) (fault : FormFault) → k ≡ n + p.nodes → IsPart c p → Refuses {A = Form} (make k d) fault →
      Refuses {A = Form} (next (make (n + part_nodes (form p)) d) F) fault
  second-refused make n k d F p fault e h i =
      refuses-same Form (next (make k d) F) (next (make (n + part_nodes (form p)) d) F) fault (ap (λ b. next (make b d) F) (behind-first n k p e h)) (refused Form Form (make k d) F fault i)

  -- ---- parts

  -- a part as the first
  pub first-made : (n : ℕ) (m : Made Form) (p : Part) (q : Parts) (r : Result Parts FormFault) → q.items ≡ [] → q.before ≡ n → IsMade c m p → MakesForms c q.before (Ok (forms q.items ++ form p ∷ [])) r →
      MakesForms c n (next m (λ g. Ok (g ∷ []))) r
  first-made n m p q r e f h k =
      part-forms c n m (λ g. Ok (g ∷ [])) p r h
      (forms-same c n (Ok (forms q.items ++ form p ∷ [])) (Ok (form p ∷ [])) r (ap (λ ps. Ok (forms ps ++ form p ∷ [])) e) (subst (λ (b : ℕ). MakesForms c b (Ok (forms q.items ++ form p ∷ [])) r) f k))

  -- a part behind others
  pub pushed-made : (make : Maker) (d : Draft) (ps : Parts) (p : Part) (r : Result Parts FormFault) → AreParts c ps → IsMade c (make ps.next d) p → MakesForms c ps.before (Ok (forms ps.items ++ form p ∷ [])) r →
      MakesForms c ps.before (behind (forms ps.items) (make (reached ps) d)) r
  pushed-made make d ps p r a h k =
      forms-same c ps.before (behind (forms ps.items) (make ps.next d)) (behind (forms ps.items) (make (reached ps) d)) r (ap (λ b. behind (forms ps.items) (make b d)) a.next)
      (part-forms c ps.before (make ps.next d) (λ g. Ok (forms ps.items ++ g ∷ [])) p r h k)

  pub pushed-refused : (make : Maker) (d : Draft) (ps : Parts) (fault : FormFault) → AreParts c ps → Refuses {A = Form} (make ps.next d) fault → Refuses {A = List Form} (behind (forms ps.items) (make (reached ps) d)) fault
  pushed-refused make d ps fault a h =
      refuses-same (List Form) (behind (forms ps.items) (make ps.next d)) (behind (forms ps.items) (make (reached ps) d)) fault (ap (λ b. behind (forms ps.items) (make b d)) a.next)
      (refused Form (List Form) (make ps.next d) (λ g. Ok (forms ps.items ++ g ∷ [])) fault h)

  -- ---- chains

  -- what follows from a first part
  pub chain-made : (n : ℕ) (m : Made Form) (F : ℕ → nodes.Parts → Made Form) (ps : Parts) (r : Result Part FormFault) → AreMade c n (next m (λ g. Ok (g ∷ []))) ps →
      ((sum : nodes.Parts) → forms ps.items ≡ sum.0 ∷ sum.1 → Makes c (F ps.before sum) r) → Makes c (next m (λ g. F n (g, []))) r
  chain-made n (Ok g) F ps r h k =
      let e : g ∷ [] ≡ forms ps.items = cc (h.are_forms) in
      subst (λ (b : ℕ). Makes c (F b (g, [])) r) h.before (k (g, []) (sym e))
  chain-made n (Err e) F ps r h k = cc (h.are_forms)

  pub chain-some : (n : ℕ) (m : Made Form) (ps : Parts) → AreMade c n (next m (λ g. Ok (g ∷ []))) ps → AreSome ps
  chain-some n (Ok g) ps h =
      let e : g ∷ [] ≡ forms ps.items = cc (h.are_forms) in
      record { sum = (g, []); are_forms = sym e }
  chain-some n (Err e) ps h = cc (h.are_forms)

  pub chain-refused : (m : Made Form) (F : Form → Made Form) (fault : FormFault) → Refuses {A = List Form} (next m (λ g. Ok (g ∷ []))) fault → Refuses {A = Form} (next m F) fault
  chain-refused m F fault h = refused Form Form m F fault (part-refused Form (List Form) m (λ g. g ∷ []) fault h)

  -- what follows from the parts of a sum
  pub summed-made : (n : ℕ) (m : Made nodes.Parts) (F : ℕ → Form → List Form → Made Form) (qs : Parts) (r : Result Part FormFault) → AreSummed c n m qs →
      ((g : Form) (hs : List Form) → forms qs.items ≡ g ∷ hs → Makes c (F qs.before g hs) r) → Makes c (next m (λ ps. F n ps.0 ps.1)) r
  summed-made n m F qs r h k =
      makes-same c (F n h.sum.0 h.sum.1) (next m (λ ps. F n ps.0 ps.1)) r (ap (λ m. next m (λ ps. F n ps.0 ps.1)) (sym h.is_made))
      (subst (λ (b : ℕ). Makes c (F b h.sum.0 h.sum.1) r) h.before (k h.sum.0 h.sum.1 h.are_forms))

-- ---- steps

module _ (s : Site) (at own : ℕ) (sign : Sign) (d : Draft) (ps : Parts) (sum : nodes.Parts) (a : AreParts s.context.now ps) (e : forms ps.items ≡ sum.0 ∷ sum.1) where
  abbrev taken : Form → Made nodes.Parts
  taken g = nodes.stepped (sets s.context.now) (arrays s.context.now) s.context.now.item sign at own ps.before sum g

  step-is : place_or own d ≡ own → next (operand_maker s ps.next d) taken ≡ step_maker s at ps.before sum (record { sign = sign; operand = d })
  step-is h =
      ap (λ b. next (operand_maker s b d) taken) (a.next ∙ ap (λ gs. ps.before + all_nodes gs) e)
      ∙ sym (own-place (sets s.context.now) (arrays s.context.now) s.context.now.item nodes.Parts (ps.before + parts_nodes sum) own d (λ k g. nodes.stepped (sets s.context.now) (arrays s.context.now) s.context.now.item sign at k ps.before sum g) h)

  pub step-made : (p : Part) (r : Result Parts FormFault) → place_or own d ≡ own → IsMade s.context.now (operand_maker s ps.next d) p → MakesSum s.context.now ps.before (taken (form p)) r →
      MakesSum s.context.now ps.before (step_maker s at ps.before sum (record { sign = sign; operand = d })) r
  step-made p r h i k =
      sum-same s.context.now ps.before (taken (form p)) (step_maker s at ps.before sum (record { sign = sign; operand = d })) r
      (ap (λ m. next m taken) (sym i.is_form) ∙ step-is h) k

  pub step-refused : (fault : FormFault) → place_or own d ≡ own → Refuses {A = Form} (operand_maker s ps.next d) fault → Refuses {A = nodes.Parts} (step_maker s at ps.before sum (record { sign = sign; operand = d })) fault
  step-refused fault h k =
      refuses-same nodes.Parts (next (operand_maker s ps.next d) taken) (step_maker s at ps.before sum (record { sign = sign; operand = d })) fault (step-is h)
      (refused Form nodes.Parts (operand_maker s ps.next d) taken fault k)

-- ---- equivalences

module _ (s : Site) (n : ℕ) where
  first-is : (d : Draft) (ds : List Draft) → next (truth_maker s n d) (λ g. same_maker s n g ds) ≡ first_maker s n (d ∷ ds)
  first-is d ds = next-out (maker s n d) (λ g. nodes.truth_part s.context.now.item n g) (λ g. same_maker s n g ds)

  pub first-same : (d : Draft) (ds : List Draft) (p : Part) (r : Result Part FormFault) → IsMade s.context.now (truth_maker s n d) p → Makes s.context.now (same_maker s n (form p) ds) r → Makes s.context.now (first_maker s n (d ∷ ds)) r
  first-same d ds p r h k =
      makes-same s.context.now (next (truth_maker s n d) (λ g. same_maker s n g ds)) (first_maker s n (d ∷ ds)) r (first-is d ds)
      (part-made s.context.now (truth_maker s n d) (λ g. same_maker s n g ds) p r h k)

  pub first-refused : (d : Draft) (ds : List Draft) (fault : FormFault) → Refuses {A = Form} (truth_maker s n d) fault → Refuses {A = Form} (first_maker s n (d ∷ ds)) fault
  first-refused d ds fault k =
      refuses-same Form (next (truth_maker s n d) (λ g. same_maker s n g ds)) (first_maker s n (d ∷ ds)) fault (first-is d ds) (refused Form Form (truth_maker s n d) (λ g. same_maker s n g ds) fault k)

  pub none-same : (f : Term → Draft) (ts : List Term) → ts ≡ [] → nodes.known_node s.context.now.item n (values.Bool true) ≡ first_maker s n (map f ts)
  none-same f ts e = ap (λ ts. first_maker s n (map f ts)) (sym e)

  same-out : (g : Form) (d : Draft) (ds : List Draft) → same_maker s n g (d ∷ ds) ≡ next (same_step s n g d) (λ h. same_maker s n h ds)
  same-out g d ds = sym (next-out (maker s (n + part_nodes g) d) (λ h. nodes.same s.context.now.item n g h) (λ h. same_maker s n h ds))

  module _ (f : Term → Draft) (xs : List Term) (i : ℕ) (whole : Made Form) (p : Part) (so : whole ≡ same_maker s n (form p) (map f (drop i xs))) where
    here : (x : Term) → i < length xs → x ≡ get_or xs i x → whole ≡ next (same_step s n (form p) (f x)) (λ h. same_maker s n h (map f (drop (i + 1) xs)))
    here x more e =
        so ∙ ap (same_maker s n (form p)) (at_drop_more (λ ys. map f ys) xs i x more ∙ ap (λ y. f y ∷ map f (drop (i + 1) xs)) (sym e)) ∙ same-out (form p) (f x) (map f (drop (i + 1) xs))

    pub same-next : (x : Term) (q : Part) → i < length xs → x ≡ get_or xs i x → IsMade s.context.now (same_step s n (form p) (f x)) q → whole ≡ same_maker s n (form q) (map f (drop (i + 1) xs))
    same-next x q more e h = here x more e ∙ ap (λ m. next m (λ h. same_maker s n h (map f (drop (i + 1) xs)))) h.is_form

    pub same-stop : (x : Term) (fault : FormFault) → i < length xs → x ≡ get_or xs i x → Refuses {A = Form} (same_step s n (form p) (f x)) fault → Refuses {A = Form} whole fault
    same-stop x fault more e h =
        refuses-same Form _ whole fault (sym (here x more e)) (refused Form Form (same_step s n (form p) (f x)) (λ h. same_maker s n h (map f (drop (i + 1) xs))) fault h)

    pub same-end : length xs ≤ i → IsPart s.context.now p → IsMade s.context.now whole p
    same-end h k = record { is_form = so ∙ ap (same_maker s n (form p)) (at_drop_all (λ ys. map f ys) xs i h); is_part = k }
