-- The laws of trees and stops, for any grammar.
use Rattle.std.proofs.Common.{◌≡◌, ℕ, max, ◌≤◌, ◌⊎◌, inl, inr, List, [], ◌∷◌, ◌++◌, Option, Result, Ok, Err, refl, sym, ap, ◌∙◌, subst, arith, append_assoc, append-nil}
use Rattle.std.proofs.Math.Nat.{lt_of_not-le}
use Rattle.opl_token.specs.declared.token.Kind.{Kind}
use Rattle.opl_token.specs.declared.token.Token.{Token}
use Rattle.opl_tree.specs.Reading.{kinds}
use Rattle.opl_tree.specs.declared.fault.SyntaxFault.{SyntaxFault}
use Rattle.opl_tree.specs.declared.fault.SyntaxFault.TheVariants.{Syntax, TooDeep, OutOfMemory}
use Rattle.opl_grammar.specs.Input.{Input, syntax, too_deep, Outcome, Parser}
use Rattle.opl_grammar.specs.Input.{Reads as GivenBy}
use Rattle.opl_grammar.specs.Model as gm
use Rattle.opl_tree.specs.Marks.{Marks}
use Rattle.opl_tree.specs.Depth.{depth_of, max_nesting}
use Rattle.opl_tree.specs.Marks as mk
use Rattle.opl_reader_laws.specs.Reading as rd
use Rattle.opl_reader_laws.proofs.Levels.{fits_of, depth_fits}
use Rattle.opl_reader_laws.proofs.Outcomes.{ok_one, ok_not_err}
use Rattle.opl_tree.proofs.Depth.{depth_of-append}
use Rattle.opl_reader_laws.proofs.Whole.{start, first_same, rest_same, kinds-append, deep_one, Grammar, whole_reads, whole_ok, opens_reads, opened_spelt, every_opens, whole_opens, whole_stops}

-- one beginning goes on with what stands behind another
pub record GoesOn (front back other : List Token) : Type 0 where
  next : Token
  rest : List Token
  more : List Token
  there : back ≡ next ∷ rest
  is : other ≡ front ++ next ∷ more

later : {xs ys back : List Token} {u v : Token} → u ≡ v → GoesOn xs back ys → GoesOn (u ∷ xs) back (v ∷ ys)
later {xs} {ys} {back} {u} {v} e g = record { next = g.next; rest = g.rest; more = g.more; there = g.there; is = ap (λ w. w ∷ ys) (sym e) ∙ ap (λ zs. u ∷ zs) g.is }

abbrev Compared : List Token → List Token → List Token → List Token → Type 0
Compared front back other behind = ((front ≡ other) × (back ≡ behind)) ⊎ (GoesOn front back other ⊎ GoesOn other behind front)

compared_later : (xs back ys behind : List Token) {u v : Token} → u ≡ v → Compared xs back ys behind → Compared (u ∷ xs) back (v ∷ ys) behind
compared_later xs back ys behind {u} {v} e (inl h) = inl (ap (λ zs. u ∷ zs) h.0 ∙ ap (λ w. w ∷ ys) e, h.1)
compared_later xs back ys behind e (inr (inl g)) = inr (inl (later e g))
compared_later xs back ys behind e (inr (inr g)) = inr (inr (later (sym e) g))

-- two beginnings of one list are the same, or one goes on with what stands behind the other
compared : (front back other behind : List Token) → front ++ back ≡ other ++ behind → Compared front back other behind
compared [] back [] behind e = inl (refl, e)
compared [] back (u ∷ other) behind e = inr (inl (record { next = u; rest = other ++ behind; more = other; there = e; is = refl }))
compared (u ∷ front) back [] behind e = inr (inr (record { next = u; rest = front ++ back; more = front; there = sym e; is = refl }))
compared (u ∷ front) back (v ∷ other) behind e = compared_later front back other behind (first_same e) (compared front back other behind (rest_same e))

module _ {T : Type 0} (marks : T → Marks) (begins : (Option Kind → Type 0) → Option Kind → Type 0) (read : ℕ → Parser T) (G : Grammar marks begins read) where
  pub one_tree : rd.OneTree marks
  one_tree tokens end t u h k =
      let n = max (depth_of (marks t)) (depth_of (marks u)) in
      let same : (t, start [] end) ≡ (u, start [] end) = ok_one (sym (whole_reads marks begins read G n tokens end t h (fits_of n (marks t) (omega arith))) ∙ whole_reads marks begins read G n tokens end u k (fits_of n (marks u) (omega arith))) in
      ap (λ c. c.0) same

  -- tokens that have a tree are stuck nowhere
  not_stuck : (tokens : List Token) (end : ℕ) (t : T) (at : ℕ) → rd.IsTreeOf marks t tokens end → (front back : List Token) → tokens ≡ front ++ back → rd.Stops marks front back end at → ⊥
  not_stuck tokens end t at h front [] e s = s.0 t h.formed (h.spelt ∙ ap kinds (e ∙ append-nil front))
  not_stuck tokens end t at h front (u ∷ us) e s = s.0 (record {
    tree = t;
    formed = h.formed;
    rest = kinds us;
    begins = h.spelt ∙ (ap kinds e ∙ (kinds-append front (u ∷ us) ∙ sym (append_assoc (kinds front) (u.kind ∷ []) (kinds us))));
  })

  pub tree_or_stop : rd.TreeOrStop marks
  tree_or_stop tokens end t at h s = not_stuck tokens end t at h s.front s.back s.parts s.stop

  -- a beginning of what is viable is viable
  viable_front : (ks ls : List Kind) → rd.IsViable marks (ks ++ ls) → rd.IsViable marks ks
  viable_front ks ls v = record { tree = v.tree; formed = v.formed; rest = ls ++ v.rest; begins = v.begins ∙ append_assoc ks ls v.rest }

  -- a viable beginning does not go on with the token at which another stops
  not_past : (front back other : List Token) (end at : ℕ) → GoesOn front back other → rd.Stops marks front back end at → rd.IsViable marks (kinds other) → ⊥
  not_past front back other end at g s v =
      let stuck : rd.Stops marks front (g.next ∷ g.rest) end at = subst (λ b. rd.Stops marks front b end at) g.there s in
      let same : kinds other ≡ (kinds front ++ g.next.kind ∷ []) ++ kinds g.more =
      ap kinds g.is ∙ (kinds-append front (g.next ∷ g.more) ∙ sym (append_assoc (kinds front) (g.next.kind ∷ []) (kinds g.more))) in
      stuck.0 (viable_front (kinds front ++ g.next.kind ∷ []) (kinds g.more) (subst (rd.IsViable marks) same v))

  same_stop : (front back : List Token) (end at other : ℕ) → rd.Stops marks front back end at → rd.Stops marks front back end other → at ≡ other
  same_stop front [] end at other s t = s.1 ∙ sym t.1
  same_stop front (u ∷ us) end at other s t = s.1 ∙ sym t.1

  pub one_stop : rd.OneStop marks
  one_stop tokens end at other s t = by_length (compared s.front s.back t.front t.back (sym s.parts ∙ t.parts)) where
    by_length : ((s.front ≡ t.front) × (s.back ≡ t.back)) ⊎ (GoesOn s.front s.back t.front ⊎ GoesOn t.front t.back s.front) → at ≡ other
    by_length (inl e) = same_stop t.front t.back end at other (subst (λ b. rd.Stops marks t.front b end at) e.1 (subst (λ f. rd.Stops marks f s.back end at) e.0 s.stop)) t.stop
    by_length (inr (inl g)) = absurd (not_past s.front s.back t.front end at g s.stop t.viable)
    by_length (inr (inr g)) = absurd (not_past t.front t.back s.front end other g t.stop s.viable)

  -- ---- the level too many

  pub one_opening : rd.OneOpening marks
  one_opening levels tokens at other s t = deep_one (sym (opens_reads marks begins read G levels tokens 0 at s) ∙ opens_reads marks begins read G levels tokens 0 other t)

  pub deep_or_tree : rd.DeepOrTree marks
  deep_or_tree levels tokens end t at h o = lt_of_not-le (λ d. ok_not_err (sym (whole_reads marks begins read G levels tokens end t h (fits_of levels (marks t) d)) ∙ opens_reads marks begins read G levels tokens end at o))

  -- what opens it in one tree opens it in each that begins so
  pub only_deeper : rd.OnlyDeeper marks
  only_deeper levels tokens at o t rest formed is =
      let there = opened_spelt marks begins read G levels tokens at o in
      let f = every_opens marks begins read G levels (kinds o.front) o.opener.kind o.rest rest o.tree t o.formed formed there is
      (record { before = o.before; number = o.number; behind = o.behind; opened = o.opened; same = o.same; too_many = o.too_many; first = o.first }) in
      let deep : depth_of (marks t) ≡ max (depth_of f.before) (max f.number (depth_of f.behind)) = ap depth_of f.opened ∙ depth_of-append f.before (mk.opens f.number ∷ f.behind) in
      let many = f.too_many in
      omega arith

  -- ---- a tree, a stop or a level too many

  by_outcome : (tokens : List Token) (end : ℕ) (o : Outcome T) → read max_nesting (start tokens end) ≡ o → ((t : T) × rd.IsTreeOf marks t tokens end × (depth_of (marks t) ≤ max_nesting)) ⊎ (((at : ℕ) × rd.StopsAt marks tokens end at × rd.NoneOpens marks max_nesting tokens) ⊎ ((at : ℕ) × rd.OpensAt marks max_nesting tokens at))
  by_outcome tokens end (Ok c) e = let t = whole_ok marks begins read G max_nesting tokens end c.0 c.1 e in inl (c.0, t.0, depth_fits max_nesting (marks c.0) t.1)
  by_outcome tokens end (Err (syntax at)) e = let w = whole_stops marks begins read G max_nesting tokens end at e in inr (inl (at, w.0, w.1))
  by_outcome tokens end (Err (too_deep at)) e = inr (inr (at, whole_opens marks begins read G max_nesting tokens end at e))

  pub parse_total : rd.ParseTotal marks
  parse_total tokens end = by_outcome tokens end (read max_nesting (start tokens end)) refl

  -- ---- what the parser answers

  pub parse_answers : (tokens : List Token) (end : ℕ) (r : Result T SyntaxFault) (new : Input) → GivenBy (read max_nesting (start tokens end)) r new → rd.ParseAnswers marks tokens end r
  parse_answers tokens end (Ok t) new h = let w = whole_ok marks begins read G max_nesting tokens end t new h in (w.0, depth_fits max_nesting (marks t) w.1)
  parse_answers tokens end (Err (Syntax at)) new h = whole_stops marks begins read G max_nesting tokens end at h
  parse_answers tokens end (Err (TooDeep at)) new h = whole_opens marks begins read G max_nesting tokens end at h
  parse_answers tokens end (Err OutOfMemory) new h = tt

  pub read_answers : (tokens : List Token) (end : ℕ) (r : Result T SyntaxFault) → gm.ReadsAll (read max_nesting (gm.start tokens end)) r → rd.ParseAnswers marks tokens end r
  read_answers tokens end r h = parse_answers tokens end r h.rest h.reads

  -- ---- both ways: what stands there decides what the parser answers

  -- tokens that open a level too many are never read, and never said to stop
  pub opens_answers : (tokens : List Token) (end at : ℕ) (r : Result T SyntaxFault) → rd.OpensAt marks max_nesting tokens at → rd.ParseAnswers marks tokens end r → (r ≡ Err (TooDeep at)) ⊎ (r ≡ Err OutOfMemory)
  opens_answers tokens end at (Ok t) o h = let d = deep_or_tree max_nesting tokens end t at h.0 o in let e = h.1 in absurd (omega arith)
  opens_answers tokens end at (Err (Syntax x)) o h = absurd (h.1 at o)
  opens_answers tokens end at (Err (TooDeep x)) o h = inl (ap (λ y. Err (TooDeep y)) (one_opening max_nesting tokens x at h o))
  opens_answers tokens end at (Err OutOfMemory) o h = inr refl

  -- no token that does not fit stands before the level too many: up to the token that opens it, the tokens begin some tree
  pub opens_viable : (levels : ℕ) (tokens : List Token) (at : ℕ) (o : rd.OpensAt marks levels tokens at) → rd.IsViable marks (kinds o.front ++ o.opener.kind ∷ [])
  opens_viable levels tokens at o = record {
    tree = o.tree;
    formed = o.formed;
    rest = o.rest;
    begins = opened_spelt marks begins read G levels tokens at o ∙ sym (append_assoc (kinds o.front) (o.opener.kind ∷ []) o.rest);
  }

  -- so they stop behind that token, if they stop
  pub stop_behind : (levels : ℕ) (tokens : List Token) (end at other : ℕ) (o : rd.OpensAt marks levels tokens at) (s : rd.StopsAt marks tokens end other) → GoesOn o.front (o.opener ∷ o.back) s.front
  stop_behind levels tokens end at other o s = by_length (compared o.front (o.opener ∷ o.back) s.front s.back (sym o.parts ∙ s.parts)) where
    by_length : ((o.front ≡ s.front) × (o.opener ∷ o.back ≡ s.back)) ⊎ (GoesOn o.front (o.opener ∷ o.back) s.front ⊎ GoesOn s.front s.back o.front) → GoesOn o.front (o.opener ∷ o.back) s.front
    by_length (inl e) =
        let stuck : rd.Stops marks o.front (o.opener ∷ o.back) end other = subst (λ b. rd.Stops marks o.front b end other) (sym e.1) (subst (λ f. rd.Stops marks f s.back end other) (sym e.0) s.stop) in
        absurd (stuck.0 (opens_viable levels tokens at o))
    by_length (inr (inl g)) = g
    by_length (inr (inr g)) = absurd (not_past s.front s.back o.front end other g s.stop (viable_front (kinds o.front) (o.opener.kind ∷ []) (opens_viable levels tokens at o)))
