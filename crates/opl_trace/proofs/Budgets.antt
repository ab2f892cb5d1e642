-- What more choices make of the outcome of each piece of a search.
use Rattle.std.proofs.Common.{◌≡◌, ◌∙◌, ℕ, zero, suc, ◌+◌, ◌-◌, ◌≤◌, true, false, cond, refl, List, [], ◌∷◌, ◌++◌, ℤ, ap, sym, subst, arith, append_assoc, append-nil}
use Rattle.std.specs.Prelude.{Option, Some, None}
use Rattle.opl_expr.specs.Forms.{Fact}
use Rattle.opl_trace.specs.Run.{Mark, Out, Rest, Alternative, nothing, stopped, marked, behind, after, unlabelled, alternatives, choices, Left, left_with, first_leaf, committed}
use Rattle.opl_trace.specs.Run.Mark.{choice, leaf, solution, cut}

-- the same with d more choices left
abbrev pub more : ℕ → Out → Out
more d o = record { marks = o.marks; best = o.best; left = o.left + d; is_cut = o.is_cut }

-- with n choices there is o, with d more p: choices that were made aren't left, o without a Cut is p but for the choices
-- left, and in any case its marks are the first ones of p
pub record Agrees (n d : ℕ) (o p : Out) : Type 0 where
  pub counted : choices o.marks + o.left ≡ n
  pub alike : o.is_cut ≡ false → p ≡ more d o
  pub rest : List Mark
  pub joins : p.marks ≡ o.marks ++ rest

-- the same of what follows, with up to N choices
abbrev pub Grows : ℕ → ℕ → Rest → Rest → Type 0
Grows d N k l = (P : List Fact) (b : Option ℤ) (n m : ℕ) → n ≤ N → m ≡ n + d → Agrees n d (k P b n) (l P b m)

pub grows_less : (d M N : ℕ) (k l : Rest) → M ≤ N → Grows d N k l → Grows d M k l
grows_less d M N k l h g P b n m i e = g P b n m (omega arith) e

pub nothing_grows : (d N : ℕ) → Grows d N nothing nothing
nothing_grows d N P b n m i e = record { counted = omega arith; alike = λ c. rw e refl; rest = []; joins = refl }

-- a Cut agrees with everything
pub stopped_agrees : (d : ℕ) (b : Option ℤ) (p : Out) → Agrees zero d (stopped b) p
stopped_agrees d b p = record { counted = omega arith; alike = λ c. cc; rest = p.marks; joins = refl }

pub choice_agrees : (t : Option (ℕ × ℤ)) (n d : ℕ) (o p : Out) → Agrees n d o p → Agrees (suc n) d (marked (choice t) o) (marked (choice t) p)
choice_agrees t n d o p a = record {
  counted = let e = a.counted in omega arith;
  alike = λ c. ap (marked (choice t)) (a.alike c);
  rest = a.rest;
  joins = ap (λ ms. choice t ∷ ms) a.joins;
}

pub choices-append : (ms ns : List Mark) → choices (ms ++ ns) ≡ choices ms + choices ns
choices-append [] ns = omega arith
choices-append (choice t ∷ ms) ns = omega (arith, choices-append ms ns)
choices-append (leaf P ∷ ms) ns = choices-append ms ns
choices-append (solution a ∷ ms) ns = choices-append ms ns
choices-append (cut ∷ ms) ns = choices-append ms ns

pub behind_agrees : (n m d : ℕ) (ms : List Mark) (o p : Out) → choices ms + m ≡ n → Agrees m d o p → Agrees n d (behind ms o) (behind ms p)
behind_agrees n m d ms o p e a = record {
  counted = omega (arith, choices-append ms o.marks, a.counted);
  alike = λ c. ap (behind ms) (a.alike c);
  rest = a.rest;
  joins = ap (λ ns. ms ++ ns) a.joins ∙ sym (append_assoc ms o.marks a.rest);
}

after_cut : (o : Out) (f : Option ℤ → ℕ → Out) → o.is_cut ≡ true → after o f ≡ o
after_cut o f e = rw e refl

after_done : (o : Out) (f : Option ℤ → ℕ → Out) → o.is_cut ≡ false → after o f ≡ behind o.marks (f o.best o.left)
after_done o f e = rw e refl

-- what follows some marks begins with them
after_starts : (o : Out) (f : Option ℤ → ℕ → Out) → (rest : List Mark) × ((after o f).marks ≡ o.marks ++ rest)
after_starts o f = elim (o.is_cut) as (λ b. (rest : List Mark) × ((cond b o (behind o.marks (f o.best o.left))).marks ≡ o.marks ++ rest)) [
  | true ↦ ([], sym (append-nil o.marks))
  | false ↦ ((f o.best o.left).marks, refl)
]

pub after_agrees : (n d : ℕ) (o p : Out) (f g : Option ℤ → ℕ → Out) → Agrees n d o p → ((b : Option ℤ) (i j : ℕ) → i ≤ n → j ≡ i + d → Agrees i d (f b i) (g b j)) → Agrees n d (after o f) (after p g)
after_agrees n d o p f g a all =
    elim (o.is_cut) as (λ c. o.is_cut ≡ c → Agrees n d (after o f) (after p g)) [
      | true ↦ λ e. let s = after_starts p g in
          subst (λ q. Agrees n d q (after p g)) (sym (after_cut o f e)) (record {
            counted = a.counted;
            alike = λ c. cc;
            rest = a.rest ++ s.0;
            joins = s.1 ∙ ap (λ ms. ms ++ s.0) a.joins ∙ append_assoc o.marks a.rest s.0;
          })
      | false ↦ λ e.
          subst (λ q. Agrees n d q (after p g)) (sym (after_done o f e))
          (subst (λ q. Agrees n d (behind o.marks (f o.best o.left)) (after q g)) (sym (a.alike e))
          (subst (λ q. Agrees n d (behind o.marks (f o.best o.left)) q) (sym (after_done (more d o) g e))
          (behind_agrees n o.left d o.marks (f o.best o.left) (g o.best (o.left + d)) a.counted (all o.best o.left (o.left + d) (omega (arith, a.counted)) refl))))
    ] refl

-- ---- alternatives

-- alternatives one by one
abbrev pub AllGrow : ℕ → ℕ → List Rest → List Rest → Type 0
AllGrow d N [] [] = Unit {0}
AllGrow d N [] (l ∷ ls) = ⊥
AllGrow d N (k ∷ ks) [] = ⊥
AllGrow d N (k ∷ ks) (l ∷ ls) = Grows d N k l × AllGrow d N ks ls

-- the same, with equal labels
abbrev pub AllEnter : ℕ → ℕ → List Alternative → List Alternative → Type 0
AllEnter d N [] [] = Unit {0}
AllEnter d N [] (l ∷ ls) = ⊥
AllEnter d N (k ∷ ks) [] = ⊥
AllEnter d N (k ∷ ks) (l ∷ ls) = ((k.label ≡ l.label) × Grows d N k.rest l.rest) × AllEnter d N ks ls

pub unlabelled_enter : (d N : ℕ) (ks ls : List Rest) → AllGrow d N ks ls → AllEnter d N (unlabelled ks) (unlabelled ls)
unlabelled_enter d N [] [] h = tt
unlabelled_enter d N [] (l ∷ ls) h = absurd h
unlabelled_enter d N (k ∷ ks) [] h = absurd h
unlabelled_enter d N (k ∷ ks) (l ∷ ls) h = ((refl, h.0), unlabelled_enter d N ks ls h.1)

pub alternatives_grow : (d N : ℕ) (ks ls : List Alternative) → AllEnter d N ks ls → Grows d (suc N) (alternatives ks) (alternatives ls)
alternatives_grow d N [] [] h P b n m i e = nothing_grows d (suc N) P b n m i e
alternatives_grow d N [] (l ∷ ls) h P b n m i e = absurd h
alternatives_grow d N (k ∷ ks) [] h P b n m i e = absurd h
alternatives_grow d N (k ∷ ks) (l ∷ ls) h P b zero m i e = stopped_agrees d b (alternatives (l ∷ ls) P b m)
alternatives_grow d N (k ∷ ks) (l ∷ ls) h P b (suc n) zero i e = absurd (omega arith)
alternatives_grow d N (k ∷ ks) (l ∷ ls) h P b (suc n) (suc m) i e =
    after_agrees (suc n) d (marked (choice k.label) (k.rest P b n)) (marked (choice l.label) (l.rest P b m)) (alternatives ks P) (alternatives ls P)
    (subst (λ t. Agrees (suc n) d (marked (choice k.label) (k.rest P b n)) (marked (choice t) (l.rest P b m))) h.0.0
    (choice_agrees k.label n d (k.rest P b n) (l.rest P b m) (h.0.1 P b n m (omega arith) (omega arith))))
    (λ c r s q t. alternatives_grow d N ks ls h.1 P c r s (omega arith) t)

-- ---- once

left_first : (m : Mark) (ms ns : List Mark) (o : Option Left) (l : Left) → first_leaf ms ≡ o → ((k : Left) → first_leaf ms ≡ Some k → first_leaf (ms ++ ns) ≡ Some k) → left_with m o ≡ Some l → left_with m (first_leaf (ms ++ ns)) ≡ Some l
left_first m ms ns None l e f h = cc
left_first m ms ns (Some k) l e f h = rw (f k e) h

leaf_first : (ms ns : List Mark) (l : Left) → first_leaf ms ≡ Some l → first_leaf (ms ++ ns) ≡ Some l
leaf_first [] ns l h = cc
leaf_first (choice t ∷ ms) ns l h = left_first (choice t) ms ns (first_leaf ms) l refl (leaf_first ms ns) h
leaf_first (leaf P ∷ ms) ns l h = h
leaf_first (solution a ∷ ms) ns l h = left_first (solution a) ms ns (first_leaf ms) l refl (leaf_first ms ns) h
leaf_first (cut ∷ ms) ns l h = left_first cut ms ns (first_leaf ms) l refl (leaf_first ms ns) h

-- the Leaf behind marks without one
abbrev left_behind : List Mark → Option Left → Option Left
left_behind ms None = None
left_behind ms (Some l) = Some (record { before = ms ++ l.before; posted = l.posted })

left_later : (m : Mark) (ms : List Mark) (o : Option Left) → left_with m (left_behind ms o) ≡ left_behind (m ∷ ms) o
left_later m ms None = refl
left_later m ms (Some l) = refl

none_first : (m : Mark) (o : Option Left) → left_with m o ≡ None → o ≡ None
none_first m None h = refl
none_first m (Some l) h = cc

left_none : (o : Option Left) → o ≡ left_behind [] o
left_none None = refl
left_none (Some l) = refl

leaf_later : (ms ns : List Mark) → first_leaf ms ≡ None → first_leaf (ms ++ ns) ≡ left_behind ms (first_leaf ns)
leaf_later [] ns h = left_none (first_leaf ns)
leaf_later (choice t ∷ ms) ns h = rw (leaf_later ms ns (none_first (choice t) (first_leaf ms) h)) (left_later (choice t) ms (first_leaf ns))
leaf_later (leaf P ∷ ms) ns h = cc
leaf_later (solution a ∷ ms) ns h = rw (leaf_later ms ns (none_first (solution a) (first_leaf ms) h)) (left_later (solution a) ms (first_leaf ns))
leaf_later (cut ∷ ms) ns h = rw (leaf_later ms ns (none_first cut (first_leaf ms) h)) (left_later cut ms (first_leaf ns))

-- the marks before the first Leaf
abbrev Fewer : List Mark → Option Left → Type 0
Fewer ms None = Unit {0}
Fewer ms (Some l) = choices l.before ≤ choices ms

fewer_with : (m : Mark) (ms : List Mark) (o : Option Left) → Fewer ms o → choices (m ∷ []) + choices ms ≡ choices (m ∷ ms) → Fewer (m ∷ ms) (left_with m o)
fewer_with m ms None h e = tt
fewer_with m ms (Some l) h e = omega (arith, choices-append (m ∷ []) l.before, h, e)

leaf_fewer : (ms : List Mark) → Fewer ms (first_leaf ms)
leaf_fewer [] = tt
leaf_fewer (choice t ∷ ms) = fewer_with (choice t) ms (first_leaf ms) (leaf_fewer ms) (omega arith)
leaf_fewer (leaf P ∷ ms) = omega arith
leaf_fewer (solution a ∷ ms) = fewer_with (solution a) ms (first_leaf ms) (leaf_fewer ms) (omega arith)
leaf_fewer (cut ∷ ms) = fewer_with cut ms (first_leaf ms) (leaf_fewer ms) (omega arith)

-- marks without a Leaf begin what is kept of more marks
committed_starts : (k : Rest) (o p : Out) (b : Option ℤ) (m : ℕ) (ns : List Mark) (l : Option Left) → p.marks ≡ o.marks ++ ns → (rest : List Mark) × ((committed k p b m (left_behind o.marks l)).marks ≡ o.marks ++ rest)
committed_starts k o p b m ns None e = (ns, e)
committed_starts k o p b m ns (Some l) e = (l.before ++ (k l.posted b (m - choices (o.marks ++ l.before))).marks, append_assoc o.marks l.before (k l.posted b (m - choices (o.marks ++ l.before))).marks)

-- what was done under `once`, with the first Leaf as it was found
abbrev Found : ℕ → ℕ → Rest → Rest → Out → Out → Option ℤ → ℕ → Option Left → Type 0
Found n d k l o p b m f = Agrees n d (committed k o b n f) (committed l p b m (first_leaf p.marks))

found_some : (d N n m : ℕ) (k l : Rest) (o p : Out) (b : Option ℤ) (f : Left) → Agrees n d o p → Grows d N k l → n ≤ N → m ≡ n + d → first_leaf o.marks ≡ Some f → choices f.before ≤ choices o.marks → Found n d k l o p b m (Some f)
found_some d N n m k l o p b f a g i e h few =
    let found : first_leaf p.marks ≡ Some f = ap first_leaf a.joins ∙ leaf_first o.marks a.rest f h in
    let c = a.counted in
    rw found (
    behind_agrees n (n - choices f.before) d f.before (k f.posted b (n - choices f.before)) (l f.posted b (m - choices f.before)) (omega arith)
    (g f.posted b (n - choices f.before) (m - choices f.before) (omega arith) (omega arith))
    )

found_none : (d n m : ℕ) (k l : Rest) (o p : Out) (b : Option ℤ) → Agrees n d o p → first_leaf o.marks ≡ None → Found n d k l o p b m None
found_none d n m k l o p b a h =
    elim (o.is_cut) as (λ c. o.is_cut ≡ c → Found n d k l o p b m None) [
      | true ↦ λ e.
          let found : first_leaf p.marks ≡ left_behind o.marks (first_leaf a.rest) = ap first_leaf a.joins ∙ leaf_later o.marks a.rest h in
          let s = committed_starts l o p b m a.rest (first_leaf a.rest) a.joins in
          record { counted = a.counted; alike = λ c. cc; rest = s.0; joins = rw found s.1 }
      | false ↦ λ e.
          let found : first_leaf p.marks ≡ None = ap (λ q. first_leaf q.marks) (a.alike e) ∙ h in
          rw found a
    ] refl

pub committed_agrees : (d N n m : ℕ) (k l : Rest) (o p : Out) (b : Option ℤ) → Agrees n d o p → Grows d N k l → n ≤ N → m ≡ n + d → Agrees n d (committed k o b n (first_leaf o.marks)) (committed l p b m (first_leaf p.marks))
committed_agrees d N n m k l o p b a g i e =
    elim (first_leaf o.marks) as (λ f. first_leaf o.marks ≡ f → Fewer o.marks f → Found n d k l o p b m f) [
      | None ↦ λ h few. found_none d n m k l o p b a h
      | Some f ↦ λ h few. found_some d N n m k l o p b f a g i e h few
    ] refl (leaf_fewer o.marks)
