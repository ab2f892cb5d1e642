-- What labelling makes at a moment, and alternatives one after another.
use Rattle.std.proofs.Common.{◌≡◌, ℕ, zero, suc, ◌+◌, ◌<◌, ◌≤◌, true, false, cond, refl, List, [], ◌∷◌, ◌++◌, length, ℤ, pos, ap, sym, ◌∙◌, subst, arith, append_assoc}
use Rattle.std.specs.Prelude.{Option, Some, None, unsigned_abs, slice_index_or}
use Rattle.std.proofs.lemmas.List.{append-nil}
use Rattle.std.proofs.lemmas.Bool.{and_from}
use Rattle.opl_domain.specs.Family.{Family, IsFamily, Below, Full, set_of, has, member}
use Rattle.opl_domain.proofs.Members.{member_first}
use Rattle.opl_expr.specs.declared.model.Core.{Core}
use Rattle.opl_expr.specs.Forms.{Term, Fact}
use Rattle.opl_expr.specs.Options.{lift1}
use Rattle.opl_expr.specs.Solutions.{declared, is_among, goal_term}
use Rattle.opl_expr.proofs.Bounds.{bounded, value_small}
use Rattle.opl_trace.specs.Answers.{is_single, is_value}
use Rattle.opl_trace.specs.Marks.{objective}
use Rattle.opl_trace.specs.Objective.{Objective, best_after}
use Rattle.opl_trace.specs.Run.{Mark, Out, Rest, Alternative, nothing, marked, behind, after, alternatives, entered, within, whole_leaf, label, values_of}
use Rattle.opl_trace.specs.Run.Mark.{choice, leaf, solution, cut}
use Rattle.opl_trace.proofs.Posting.{closed_stable}
use Rattle.opl_trace.specs.Moments.{core_sets}
use Rattle.opl_reference_labelling.specs.Labelling.{labelling, values_then}
use Rattle.opl_trace.specs.SoundCores.{IsSoundCore, IsSoundGoal}
use Rattle.opl_trace.specs.SoundCores.{AreSound, IsBest}
use Rattle.opl_reference_labelling.specs.Outcomes.{AreSoundMarks, IsSoundOut, IsMade, outcome}
use Rattle.opl_reference_labelling.specs.declared.outcome.Outcome as code
use Rattle.opl_trace.specs.SoundCores.{AreThere}
use Rattle.opl_domain.specs.Span.{values}
use Rattle.opl_expr.specs.Solutions.{base}
use Rattle.opl_expr.specs.Sound.{IsSoundFact, var_magnitude}
use Rattle.opl_trace.specs.SoundCores.{IsSoundSet}
use Rattle.opl_choices.proofs.AnswersSound.{small_value}
use Rattle.std.proofs.lemmas.List.Elements.{All-get_or}
use Rattle.std.specs.Prelude.{int_le}
use Rattle.std.proofs.Common.{max, ◌^◌, lit≤}
use Rattle.opl_trace.specs.Marks.{numbers_from, trace, core_trace}
use Rattle.std.proofs.lemmas.List.{length-map}
use Rattle.opl_reference_labelling.proofs.MomentSets.{goal_is}

-- ---- the sets of a moment

-- the sets of a moment are within the declared ones
pub below_at : (core : Core) (P : List Fact) (b : Option ℤ) (C : Family) → core_sets core P b ≡ Some C → Below C (declared core)
below_at core P b C e = let s = closed_stable (objective core) (declared core) P b C e in s.within

full_at : (core : Core) (P : List Fact) (b : Option ℤ) (C : Family) → core_sets core P b ≡ Some C → Full C
full_at core P b C e = let s = closed_stable (objective core) (declared core) P b C e in s.stable.full

within_at : (goal : Option Objective) (sets : List Fact → Option ℤ → Option Family) (next : Family → Rest) (P : List Fact) (b : Option ℤ) (n : ℕ) (C : Family) → sets P b ≡ Some C → within goal sets next P b n ≡ next C P b n
unfolding within
within_at goal sets next P b n C e = ap (λ o. entered next o P b n) e

failed_within : (goal : Option Objective) (sets : List Fact → Option ℤ → Option Family) (next : Family → Rest) (P : List Fact) (b : Option ℤ) (n : ℕ) → sets P b ≡ None → within goal sets next P b n ≡ nothing [] b n
unfolding within
failed_within goal sets next P b n e = ap (λ o. entered next o P b n) e

-- without sets there is no mark
pub failed : (core : Core) (xs : List ℕ) (P : List Fact) (b : Option ℤ) (n : ℕ) → core_sets core P b ≡ None → labelling core xs P b n ≡ nothing [] b n
unfolding labelling
failed core [] P b n e = failed_within (objective core) (core_sets core) (λ C. whole_leaf (objective core) (core_sets core)) P b n e
failed core (x ∷ xs) P b n e =
    failed_within (objective core) (core_sets core) (λ C. cond (is_single C x) (labelling core xs) (alternatives (values_then core x xs (set_of C x)))) P b n e

pub single_label : (core : Core) (x : ℕ) (xs : List ℕ) (P : List Fact) (b : Option ℤ) (n : ℕ) (C : Family) → core_sets core P b ≡ Some C → is_single C x ≡ true → labelling core (x ∷ xs) P b n ≡ labelling core xs P b n
unfolding labelling
single_label core x xs P b n C e i =
    within_at (objective core) (core_sets core) (λ D. cond (is_single D x) (labelling core xs) (alternatives (values_then core x xs (set_of D x)))) P b n C e
    ∙ ap (λ c. cond c (labelling core xs) (alternatives (values_then core x xs (set_of C x))) P b n) i

pub values_label : (core : Core) (x : ℕ) (xs : List ℕ) (P : List Fact) (b : Option ℤ) (n : ℕ) (C : Family) → core_sets core P b ≡ Some C → is_single C x ≡ false → labelling core (x ∷ xs) P b n ≡ alternatives (values_then core x xs (set_of C x)) P b n
unfolding labelling
values_label core x xs P b n C e i =
    within_at (objective core) (core_sets core) (λ D. cond (is_single D x) (labelling core xs) (alternatives (values_then core x xs (set_of D x)))) P b n C e
    ∙ ap (λ c. cond c (labelling core xs) (alternatives (values_then core x xs (set_of C x))) P b n) i

-- ---- solutions

some_first : (ws : List ℤ) (v : ℤ) → member v ws ≡ true → member (slice_index_or ws zero (pos 0)) ws ≡ true
some_first [] v m = cc
some_first (w ∷ ws) v m = member_first w ws

among_below : (C D : Family) → Full C → Below C D → is_among (values_of C) D ≡ true
unfolding set_of
among_below [] [] f b = refl
among_below [] (vs ∷ D) f b = let s = b.same in absurd (omega arith)
among_below (ws ∷ C) [] f b = let s = b.same in absurd (omega arith)
among_below (ws ∷ C) (vs ∷ D) f b =
    let s = b.same in
    let v = f zero (omega arith) in
    and_from (member (slice_index_or ws zero (pos 0)) vs) (is_among (values_of C) D)
    (b.sub zero (slice_index_or ws zero (pos 0)) (some_first ws v.0 v.1))
    (among_below C D (λ x h. f (suc x) (omega arith)) (record { sub = λ x v m. b.sub (suc x) v m; same = omega arith }))

-- the first values of the sets of a moment are an assignment of the declared ones
pub among_at : (core : Core) (P : List Fact) (b : Option ℤ) (C : Family) → core_sets core P b ≡ Some C → is_among (values_of C) (declared core) ≡ true
among_at core P b C e = among_below C (declared core) (full_at core P b C e) (below_at core P b C e)

best_small : (core : Core) (a : List ℤ) (goal : Option Objective) (b o : Option ℤ) → is_among a (declared core) ≡ true → IsSoundGoal core.sets (lift1 (λ g. g.term) goal) → IsBest core.sets (lift1 (λ g. g.term) goal) b → o ≡ best_after goal a b → IsBest core.sets (lift1 (λ g. g.term) goal) o
best_small core a None b o m s h e = subst (λ c. IsBest core.sets None c) (sym e) h
best_small core a (Some g) b None m s h e = tt
best_small core a (Some g) b (Some v) m s h e = value_small core.sets a (bounded core a m) g.term s.1 v (sym e)

pub best_sound : (core : Core) (a : List ℤ) (b : Option ℤ) → IsSoundCore core → is_among a (declared core) ≡ true → IsBest core.sets (goal_term core) b → IsBest core.sets (goal_term core) (best_after (objective core) a b)
best_sound core a b s m h =
    subst (λ t. IsBest core.sets t (best_after (objective core) a b)) (sym (goal_is core))
    (best_small core a (objective core) b (best_after (objective core) a b) m (subst (λ t. IsSoundGoal core.sets t) (goal_is core) s.goal) (subst (λ t. IsBest core.sets t b) (goal_is core) h) refl)

-- a solution, and then nothing
abbrev pub one_solution : List ℤ → Option ℤ → ℕ → Out
one_solution a b n = record { marks = solution a ∷ []; best = b; left = n; is_cut = false }

pub solution_label : (core : Core) (P : List Fact) (b : Option ℤ) (n : ℕ) (C : Family) → core_sets core P b ≡ Some C → labelling core [] P b n ≡ one_solution (values_of C) (best_after (objective core) (values_of C) b) n
unfolding labelling
solution_label core P b n C e =
    within_at (objective core) (core_sets core) (λ D. whole_leaf (objective core) (core_sets core)) P b n C e
    ∙ within_at (objective core) (core_sets core) (λ D Q c m. one_solution (values_of D) (best_after (objective core) (values_of D) c) m) P b n C e

-- ---- alternatives, one after another

-- some of all alternatives have made o, and the rest are still to come
pub record IsUnderWay (core : Core) (all rest : List Alternative) (P : List Fact) (b : Option ℤ) (n : ℕ) (o : Out) : Type 0 where
  pub same : alternatives all P b n ≡ behind o.marks (alternatives rest P o.best o.left)
  pub whole : o.is_cut ≡ false
  pub sound : IsSoundOut core o

pub begun : (core : Core) (all : List Alternative) (P : List Fact) (b : Option ℤ) (n : ℕ) (o : Out) → IsBest core.sets (goal_term core) b → o ≡ nothing [] b n → IsUnderWay core all all P b n o
begun core all P b n o h e = subst (λ p. IsUnderWay core all all P b n p) (sym e) (record { same = refl; whole = refl; sound = record { marks = tt; best = h } })

cut_is : (o : Out) → o.left ≡ zero → (let r : Out = record { marks = o.marks ++ []; best = o.best; left = zero; is_cut = true } in r) ≡ record o { is_cut = true }
cut_is o e = ap (λ ms. let r : Out = record { marks = ms; best = o.best; left = zero; is_cut = true } in r) (append-nil o.marks) ∙ ap (λ m. let r : Out = record { marks = o.marks; best = o.best; left = m; is_cut = true } in r) (sym e)

pub spent_way : (core : Core) (all rest : List Alternative) (r : Alternative) (P : List Fact) (b : Option ℤ) (n : ℕ) (o : Out) → IsUnderWay core all (r ∷ rest) P b n o → o.left ≡ zero → (let p : Out = record o { is_cut = true } in p) ≡ alternatives all P b n
spent_way core all rest r P b n o u e = sym (u.same ∙ ap (λ m. behind o.marks (alternatives (r ∷ rest) P o.best m)) e ∙ cut_is o e)

sound_append : (core : Core) (ms ns : List Mark) → AreSoundMarks core ms → AreSoundMarks core ns → AreSoundMarks core (ms ++ ns)
sound_append core [] ns s r = r
sound_append core (choice t ∷ ms) ns s r = sound_append core ms ns s r
sound_append core (leaf P ∷ ms) ns s r = (s.0, sound_append core ms ns s.1 r)
sound_append core (solution a ∷ ms) ns s r = sound_append core ms ns s r
sound_append core (cut ∷ ms) ns s r = sound_append core ms ns s r

pub sound_turn : (core : Core) (t : Option (ℕ × ℤ)) (o p q : Out) → IsSoundOut core o → IsSoundOut core p → q ≡ behind o.marks (marked (choice t) p) → IsSoundOut core q
sound_turn core t o p q s r e = subst (λ d. IsSoundOut core d) (sym e) (record { marks = sound_append core o.marks (choice t ∷ p.marks) s.marks r.marks; best = r.best })

-- the next alternative has made p
turned : (r : Alternative) (rest : List Alternative) (P : List Fact) (b : Option ℤ) (m n : ℕ) → n ≡ suc m → alternatives (r ∷ rest) P b n ≡ after (marked (choice r.label) (r.rest P b m)) (alternatives rest P)
turned r rest P b m n e = ap (alternatives (r ∷ rest) P b) e

after_cut : (t : Option (ℕ × ℤ)) (p : Out) (f : Option ℤ → ℕ → Out) → p.is_cut ≡ true → after (marked (choice t) p) f ≡ marked (choice t) p
after_cut t p f e = ap (λ c. cond c (marked (choice t) p) (behind (choice t ∷ p.marks) (f p.best p.left))) e

after_whole : (t : Option (ℕ × ℤ)) (p : Out) (f : Option ℤ → ℕ → Out) → p.is_cut ≡ false → after (marked (choice t) p) f ≡ behind (choice t ∷ p.marks) (f p.best p.left)
after_whole t p f e = ap (λ c. cond c (marked (choice t) p) (behind (choice t ∷ p.marks) (f p.best p.left))) e

pub cut_way : (core : Core) (all rest : List Alternative) (r : Alternative) (P : List Fact) (b : Option ℤ) (n m : ℕ) (o p q : Out) → IsUnderWay core all (r ∷ rest) P b n o → o.left ≡ suc m → p ≡ r.rest P o.best m → q ≡ behind o.marks (marked (choice r.label) p) → q.is_cut ≡ true → q ≡ alternatives all P b n
cut_way core all rest r P b n m o p q u e i j c =
    let pc : p.is_cut ≡ true = sym (ap (λ d. d.is_cut) j) ∙ c in
    j ∙ sym (u.same ∙ ap (behind o.marks) (turned r rest P o.best m o.left e ∙ ap (λ d. after (marked (choice r.label) d) (alternatives rest P)) (sym i) ∙ after_cut r.label p (alternatives rest P) pc))

behind_twice : (ms ns : List Mark) (o : Out) → behind ms (behind ns o) ≡ behind (ms ++ ns) o
behind_twice ms ns o = ap (λ ks. let r : Out = record { marks = ks; best = o.best; left = o.left; is_cut = o.is_cut } in r) (sym (append_assoc ms ns o.marks))

pub next_way : (core : Core) (all rest : List Alternative) (r : Alternative) (P : List Fact) (b : Option ℤ) (n m : ℕ) (o p q : Out) → IsUnderWay core all (r ∷ rest) P b n o → o.left ≡ suc m → p ≡ r.rest P o.best m → IsSoundOut core p → q ≡ behind o.marks (marked (choice r.label) p) → q.is_cut ≡ false → IsUnderWay core all rest P b n q
next_way core all rest r P b n m o p q u e i s j c =
    let pc : p.is_cut ≡ false = sym (ap (λ d. d.is_cut) j) ∙ c in
    let whole = u.same ∙ ap (behind o.marks) (turned r rest P o.best m o.left e ∙ ap (λ d. after (marked (choice r.label) d) (alternatives rest P)) (sym i) ∙ after_whole r.label p (alternatives rest P) pc) ∙ behind_twice o.marks (choice r.label ∷ p.marks) (alternatives rest P p.best p.left) in
    record {
      same = whole ∙ ap (λ d. behind d.marks (alternatives rest P d.best d.left)) (sym j);
      whole = c;
      sound = sound_turn core r.label o p q u.sound s j;
    }

pub done_way : (core : Core) (all : List Alternative) (P : List Fact) (b : Option ℤ) (n : ℕ) (o : Out) → IsUnderWay core all [] P b n o → o ≡ alternatives all P b n
done_way core all P b n o u =
    sym (u.same ∙ ap (λ ms. let r : Out = record { marks = ms; best = o.best; left = o.left; is_cut = false } in r) (append-nil o.marks)
    ∙ ap (λ c. let r : Out = record { marks = o.marks; best = o.best; left = o.left; is_cut = c } in r) (sym u.whole))

-- ---- what the program made

pub made_of : (core : Core) (o : code.Outcome) (p q : Out) → outcome core o ≡ p → p ≡ q → IsSoundOut core p → IsMade core o q
made_of core o p q e i s = record { same = e ∙ i; sound = subst (λ r. IsSoundOut core r) i s }

pub nothing_made : (core : Core) (o : code.Outcome) (xs : List ℕ) (P : List Fact) (b : Option ℤ) (n : ℕ) → IsBest core.sets (goal_term core) b → core_sets core P b ≡ None → outcome core o ≡ nothing [] b n → IsMade core o (labelling core xs P b n)
nothing_made core o xs P b n h e i = made_of core o (nothing [] b n) (labelling core xs P b n) i (sym (failed core xs P b n e)) (record { marks = tt; best = h })

pub solution_made : (core : Core) (o : code.Outcome) (P : List Fact) (b c : Option ℤ) (n : ℕ) (C : Family) (a : List ℤ) → IsSoundCore core → IsBest core.sets (goal_term core) b → core_sets core P b ≡ Some C → a ≡ values_of C → c ≡ best_after (objective core) a b → outcome core o ≡ one_solution a c n → IsMade core o (labelling core [] P b n)
solution_made core o P b c n C a s h e i j k =
    let l : one_solution a c n ≡ one_solution (values_of C) (best_after (objective core) (values_of C) b) n = ap (λ d. one_solution a d n) j ∙ ap (λ d. one_solution d (best_after (objective core) d b) n) i in
    made_of core o (one_solution (values_of C) (best_after (objective core) (values_of C) b) n) (labelling core [] P b n) (k ∙ l) (sym (solution_label core P b n C e))
    (record { marks = tt; best = best_sound core (values_of C) b s (among_at core P b C e) h })

-- what it made, under another name
pub made_as : (core : Core) (o : code.Outcome) (p q : Out) → IsMade core o p → q ≡ p → IsMade core o q
made_as core o p q m e = subst (λ r. IsMade core o r) (sym e) m

-- ---- numbers

numbers_more : (a n : ℕ) → numbers_from a n ++ (a + n) ∷ [] ≡ numbers_from a (suc n)
numbers_more a zero = let e : a + zero ≡ a = omega arith in ap (λ m. m ∷ []) e
numbers_more a (suc n) = let e : a + suc n ≡ suc a + n = omega arith in ap (λ ms. a ∷ ms) (ap (λ m. numbers_from (suc a) n ++ m ∷ []) e ∙ numbers_more (suc a) n)

pub numbers_step : (x : ℕ) (xs ys : List ℕ) → xs ≡ numbers_from 0 x → ys ≡ xs ++ x ∷ [] → ys ≡ numbers_from 0 (x + 1)
numbers_step x xs ys e i =
    let z : x ≡ 0 + x = omega arith in
    let s : suc x ≡ x + 1 = omega arith in
    i ∙ ap (λ zs. zs ++ x ∷ []) e ∙ ap (λ m. numbers_from 0 x ++ m ∷ []) z ∙ numbers_more 0 x ∙ ap (numbers_from 0) s

pub numbers_there : (sets : List (ℤ × ℤ)) (a n : ℕ) → a + n ≤ length sets → AreThere sets (numbers_from a n)
numbers_there sets a zero h = tt
numbers_there sets a (suc n) h = (omega arith, numbers_there sets (suc a) n (omega arith))

-- default search is the labelling of all variables
pub default_is : (core : Core) (n : ℕ) → labelling core (numbers_from zero (length core.sets)) (base core) None n ≡ core_trace true core n
unfolding labelling trace declared
default_is core n =
    ap (λ m. label (objective core) (core_sets core) (numbers_from zero m) (whole_leaf (objective core) (core_sets core)) (base core) None n) (sym (length-map core.sets (λ p. values (record { low = p.0; high = p.1 }))))

-- ---- the constraints that labelling posts

module _ (core : Core) (C : Family) (k : IsSoundCore core) (f : IsFamily C) (b : Below C (declared core)) where
  pub magnitude_small : (x : ℕ) → x < length core.sets → var_magnitude core.sets x ≤ 2 ^ 62
  magnitude_small x h =
      let s = All-get_or IsSoundSet core.sets x (pos 0, pos 0) h k.sets in
      let p = slice_index_or core.sets x (pos 0, pos 0) in
      elim (int_le p.0 p.1) as (λ v. cond v (max 1 (max (unsigned_abs p.0) (unsigned_abs p.1))) 1 ≤ 2 ^ 62) [
        | true ↦ omega (arith, s.low, s.high)
        | false ↦ lit≤ tt
      ]

  pub value_sound : (x : ℕ) (v : ℤ) → x < length core.sets → has C x v ≡ true → IsSoundFact core.sets (is_value x v)
  value_sound x v h m =
      let l = magnitude_small x h in
      let n = small_value core C f b x v h m in
      (omega (arith, l, n), (omega (arith, l), h), omega (arith, l, n))
