-- What is known once the values of a variable were tried, and those of all variables.
use Rattle.std.proofs.Common.{◌≡◌, ◌∙◌, ℕ, zero, suc, ◌+◌, ◌<◌, ◌≤◌, Bool, true, false, ◌||◌, refl, List, [], ◌∷◌, length, get_or, ℤ, ◌+ℤ◌, ap, sym, subst, arith}
use Rattle.std.specs.Prelude.{Option, Some, None, slice_get}
use Rattle.std.proofs.lemmas.List.{set-set}
use Rattle.opl_domain.specs.Span.{Span, magnitude}
use Rattle.opl_domain.specs.Arithmetic.{span_add}
use Rattle.opl_domain.specs.Family.{Family, IsFamily, Below, Full, set_of, only, cut_of, outside}
use Rattle.opl_domain.proofs.Sets.{cut_there}
use Rattle.opl_expr.specs.declared.model.Core.{Core}
use Rattle.opl_expr.specs.Forms.{Term}
use Rattle.opl_expr.specs.Options.{lift}
use Rattle.opl_expr.specs.Solutions.{declared}
use Rattle.opl_expr.proofs.Bounds.{lift_parts}
use Rattle.opl_filter.specs.declared.outcome.Outcome.TheVariants as outcome
use Rattle.opl_filter.specs.Fresh.{DifferAt}
use Rattle.opl_filter.specs.Mentions.{lists, term_mentions}
use Rattle.opl_filter.specs.Filtering.{IsLeftOf}
use Rattle.opl_filter.specs.Rounds.{AreThere, TriesValue, TriesValues}
use Rattle.opl_filter.proofs.Removals.{left_self, left_join, left_sets, left_below, left_kept, from_cut}
use Rattle.opl_trace.specs.Stable.{IsMonotone, IsStable, HasFailed}
use Rattle.opl_trace.proofs.Families.{below_self, below_join, only_below}
use Rattle.opl_reify.specs.Rounds.{TriesIfListed, Looks}
use Rattle.opl_reify.proofs.Trying.{TryingShared, listed_at, shared_next, shared_end}
use Rattle.opl_reify.proofs.Looking.{left_between, nothing_between, dead_has_failed, stuck_has_failed}
use Rattle.opl_addends.specs.declared.sum.Addend.{Addend}
use Rattle.opl_addends.specs.declared.sum.Mention.{Mention}
use Rattle.opl_addends.specs.declared.sum.Sum.{Sum}
use Rattle.opl_addends.specs.Addends.{plains, picked, total, mentioning, others, CanAdd}
use Rattle.opl_addends.specs.Demands.{is_refuted_by, is_refuted_if}
use Rattle.opl_addends.specs.Sums.{is_refuted, variables, IsMention, IsSum, CanAsk}
use Rattle.opl_addends.specs.Rounds.{CanTry, SameBut, HasEnded, TriesVariable, TriesEach, IsLess}
use Rattle.opl_addends.proofs.Deciding.{total_ordered}
use Rattle.opl_addends.proofs.Sizes.{total_small, can_add_some, magnitudes_split}
use Rattle.opl_addends.proofs.Staying.{sums_split, others_stay, others_only, unmentioned}

-- ---- the values of one variable

only_cut : (F : Family) (x : ℕ) (lo hi v : ℤ) → only (cut_of F x lo hi) x v ≡ only F x v
unfolding only cut_of
only_cut F x lo hi v = set-set F x (outside lo hi (set_of F x)) (v ∷ [])

pub can_try_next : (can : Family → Type 0) (dead : Family → Bool) (F G : Family) (x : ℕ) (v : ℤ) (r : Bool) → CanTry can F x → TriesValue dead F G x v (Some r) → CanTry can G x
can_try_next can dead F G x v false c t = subst (λ H. CanTry can H x) (sym t.0) c
can_try_next can dead F G x v true c t =
    subst (λ H. CanTry can H x) (sym t.0) (λ w h. subst can (sym (only_cut F x v v w)) (c w (from_cut F x v v x w h)))

pub same_next : (dead : Family → Bool) (D F G : Family) (x : ℕ) (v : ℤ) (r : Bool) → SameBut x D F → TriesValue dead F G x v (Some r) → SameBut x D G
same_next dead D F G x v false s t = subst (SameBut x D) (sym t.0) s
same_next dead D F G x v true s t = subst (SameBut x D) (sym t.0) (λ y n. s y n ∙ sym (cut_there F x y v v n))

pub same_stuck : (dead : Family → Bool) (D F G : Family) (x : ℕ) (v : ℤ) → SameBut x D F → TriesValue dead F G x v None → SameBut x D G
same_stuck dead D F G x v s t = subst (SameBut x D) (sym t.0) s

-- ---- what is kept meanwhile

-- the sum, by what the addends that mention x and the others come to
whole_is : (F : Family) (x : ℕ) (ss : List (Bool × Term)) (r s : Option Span) → total F (others x ss) ≡ r → total F (mentioning x ss) ≡ s → total F ss ≡ lift span_add r s
whole_is F x ss r s h k = sums_split F x ss ∙ ap (λ z. lift span_add z (total F (mentioning x ss))) h ∙ ap (lift span_add r) k

lift_missing : (r : Option Span) → lift span_add r None ≡ None
lift_missing None = refl
lift_missing (Some a) = refl

-- where the addends that mention x have no sum, all have none
pub missing_refuted : (core : Core) (s : Sum) (F : Family) (x : ℕ) → None ≡ total F (mentioning x (plains core s.addends)) → is_refuted core s F ≡ true
missing_refuted core s F x e =
    let ss = plains core s.addends in
    ap (is_refuted_if s.demand) (whole_is F x ss (total F (others x ss)) None refl (sym e) ∙ lift_missing (total F (others x ss)))

pub asked_refuted : (core : Core) (s : Sum) (F : Family) (x : ℕ) (kept own : Span) → total F (others x (plains core s.addends)) ≡ Some kept → Some own ≡ total F (mentioning x (plains core s.addends)) → is_refuted_by s.demand (span_add kept own) ≡ is_refuted core s F
asked_refuted core s F x kept own h e = ap (is_refuted_if s.demand) (sym (whole_is F x (plains core s.addends) (Some kept) (Some own) h (sym e)))

-- both sums are small together
pub asked_fits : (core : Core) (F : Family) (x : ℕ) (ss : List (Bool × Term)) (kept own : Span) → Below F (declared core) → CanAdd core.sets ss → total F (others x ss) ≡ Some kept → Some own ≡ total F (mentioning x ss) → magnitude kept + magnitude own < 170141183460469231731687303715884105728
asked_fits core F x ss kept own b c h e =
    omega (arith, c.small, total_small core F (others x ss) kept b h, total_small core F (mentioning x ss) own b (sym e), magnitudes_split core.sets (λ a. term_mentions a.1 x) ss)

pub can_add_mentioning : (core : Core) (x : ℕ) (ss : List (Bool × Term)) → CanAdd core.sets ss → CanAdd core.sets (mentioning x ss)
can_add_mentioning core x ss c = can_add_some core.sets (λ a. term_mentions a.1 x) ss c

-- what the others come to
record IsRest (F : Family) (x : ℕ) (ss : List (Bool × Term)) (whole own : Span) : Type 0 where
  pub rest : Span
  pub is : total F (others x ss) ≡ Some rest
  pub sum : whole ≡ span_add rest own

rest_is : (F : Family) (x : ℕ) (ss : List (Bool × Term)) (whole own : Span) → total F ss ≡ Some whole → Some own ≡ total F (mentioning x ss) → IsRest F x ss whole own
rest_is F x ss whole own h e =
    let p = lift_parts span_add (total F (others x ss)) (total F (mentioning x ss)) whole (sym (sums_split F x ss) ∙ h) in
    let q : own ≡ p.1 = some_same own p.1 (e ∙ p.3) in
    record { rest = p.0; is = p.2; sum = p.4 ∙ ap (span_add p.0) (sym q) }
  where
    some_same : (a b : Span) → Some a ≡ Some b → a ≡ b
    some_same a b i = cc

pub is_less : (core : Core) (F : Family) (x : ℕ) (ss : List (Bool × Term)) (whole own : Span) → Full F → Below F (declared core) → CanAdd core.sets ss → total F ss ≡ Some whole → Some own ≡ total F (mentioning x ss) → IsLess whole own
is_less core F x ss whole own f b c h e =
    let r = rest_is F x ss whole own h e in
    record {
      rest = r.rest;
      is = r.sum;
      ordered = total_ordered F (others x ss) r.rest f r.is;
      small = omega (arith, c.small, total_small core F (others x ss) r.rest b r.is, magnitudes_split core.sets (λ a. term_mentions a.1 x) ss);
    }

pub less_is : (F : Family) (x : ℕ) (ss : List (Bool × Term)) (whole own left : Span) → ((r : Span) → whole ≡ span_add r own → left ≡ r) → total F ss ≡ Some whole → Some own ≡ total F (mentioning x ss) → total F (others x ss) ≡ Some left
less_is F x ss whole own left u h e = let r = rest_is F x ss whole own h e in r.is ∙ ap Some (sym (u r.rest r.sum))

pub can_ask : (core : Core) (s : Sum) (m : Mention) (kept : Span) (F : Family) → Full F → Below F (declared core) → IsSum core s → IsMention core s.addends m → total F (others m.variable (plains core s.addends)) ≡ Some kept → CanTry (CanAsk core s m kept) F m.variable
can_ask core s m kept F f b i j h v k = record {
  can_add = i.can_add;
  mention = j;
  within = below_join (only F m.variable v) F (declared core) (only_below F m.variable v k) b;
  others = others_only F m.variable v (plains core s.addends) f ∙ h;
}

pub less_low : (whole rest part : Span) → whole ≡ span_add rest part → whole.low ≡ rest.low +ℤ part.low
unfolding span_add
less_low whole rest part e = ap (λ (r : Span). r.low) e

pub less_high : (whole rest part : Span) → whole ≡ span_add rest part → whole.high ≡ rest.high +ℤ part.high
unfolding span_add
less_high whole rest part e = ap (λ (r : Span). r.high) e

-- the addends that mention a variable, as they are read
pub mention_can_add : (core : Core) (s : Sum) (m : Mention) (places : List ℕ) → places ≡ m.places → IsMention core s.addends m → CanAdd core.sets (plains core s.addends) → CanAdd core.sets (plains core (picked s.addends places))
mention_can_add core s m places e i c = subst (CanAdd core.sets) (sym (ap (λ ps. plains core (picked s.addends ps)) e ∙ i)) (can_add_mentioning core m.variable (plains core s.addends) c)

pub mention_total : (core : Core) (s : Sum) (m : Mention) (F : Family) (places : List ℕ) → places ≡ m.places → IsMention core s.addends m → total F (plains core (picked s.addends places)) ≡ total F (mentioning m.variable (plains core s.addends))
mention_total core s m F places e i = ap (total F) (ap (λ ps. plains core (picked s.addends ps)) e ∙ i)

-- ---- once they were tried

later_fails : (dead : Family → Bool) (D F : Family) → IsMonotone dead → IsLeftOf dead D F → HasFailed dead F → HasFailed dead D
later_fails dead D F m a h G s = h G (record { stable = s.stable; within = (left_kept dead D F m a).above G s.stable s.within })

pub ended_later : (dead : Family → Bool) (D F G : Family) → IsMonotone dead → IsLeftOf dead D F → HasEnded dead F G → HasEnded dead D G
ended_later dead D F G m a e = (left_join dead D F G a e.0, later_fails dead D F m a e.1)

pub dead_ended : (dead : Family → Bool) (D F : Family) → IsMonotone dead → IsLeftOf dead D F → dead F ≡ true → HasEnded dead D F
dead_ended dead D F m a h = (a, later_fails dead D F m a (dead_has_failed dead F m h))

pub stuck_ended : (dead : Family → Bool) (D F : Family) (x : ℕ) → IsMonotone dead → TriesValues dead D F x None → HasEnded dead D F
stuck_ended dead D F x m s = (s.removals, stuck_has_failed dead D F m s)

pub left_tried : (dead : Family → Bool) (D F : Family) (x : ℕ) (r : Bool) → TriesValues dead D F x (Some r) → IsLeftOf dead D F
left_tried dead D F x false t = subst (IsLeftOf dead D) (sym t.0) (left_self dead D)
left_tried dead D F x true t = t.removals

-- the others come to the same as before
pub others_kept : (dead : Family → Bool) (D F : Family) (x : ℕ) (r : Bool) (ss : List (Bool × Term)) (kept : Span) → IsFamily D → SameBut x D F → TriesValues dead D F x (Some r) → total D (others x ss) ≡ Some kept → total F (others x ss) ≡ Some kept
others_kept dead D F x r ss kept f s t h =
    let a = left_tried dead D F x r t in
    let d : DifferAt x D F = record { same = sym (left_below dead D F a).same; first = f.full; second = (left_sets dead D F f a).full; others = s } in
    sym (others_stay D F x ss d) ∙ h

pub whole_kept : (F : Family) (x : ℕ) (ss : List (Bool × Term)) (kept own : Span) → total F (others x ss) ≡ Some kept → Some own ≡ total F (mentioning x ss) → total F ss ≡ Some (span_add kept own)
whole_kept F x ss kept own h e = whole_is F x ss (Some kept) (Some own) h (sym e)

pub none_removed : (dead : Family → Bool) (D F : Family) (x : ℕ) (r : Bool) → r ≡ false → TriesValues dead D F x (Some r) → TriesVariable dead D F x (Some false)
none_removed dead D F x false e t = t
none_removed dead D F x true e t = cc

pub some_removed : (dead : Family → Bool) (D F : Family) (x : ℕ) (r : Bool) → r ≡ true → TriesValues dead D F x (Some r) → TriesVariable dead D F x (Some true)
some_removed dead D F x true e t = t
some_removed dead D F x false e t = cc

pub none_kept : (dead : Family → Bool) (D F : Family) (x : ℕ) (r : Bool) (ss : List (Bool × Term)) (kept : Span) → r ≡ false → TriesValues dead D F x (Some r) → total D ss ≡ Some kept → total F ss ≡ Some kept
none_kept dead D F x false ss kept e t h = ap (λ G. total G ss) t.0 ∙ h
none_kept dead D F x true ss kept e t h = cc

-- ---- one variable after another

pub as_listed : (dead : Family → Bool) (listed : List ℕ) (D F : Family) (x : ℕ) (r : Bool) → TriesVariable dead D F x (Some r) → TriesIfListed dead listed D F x (Some r)
as_listed dead listed D F x false t = (t.0, λ k. t.1)
as_listed dead listed D F x true t = t

pub variable_at : (ms : List Mention) (i : ℕ) (m : Mention) → i < length ms → m ≡ get_or ms i m → get_or (variables ms) i 0 ≡ m.variable
variable_at [] i m h e = absurd (omega arith)
variable_at (l ∷ ms) zero m h e = let s : m ≡ l = e in ap (λ (z : Mention). z.variable) (sym s)
variable_at (l ∷ ms) (suc i) m h e = variable_at ms i m (omega arith) e

pub length_variables : (ms : List Mention) → length (variables ms) ≡ length ms
length_variables [] = refl
length_variables (m ∷ ms) = omega (arith, length_variables ms)

pub mention_at : (ms : List Mention) (i : ℕ) (m : Mention) → i < length ms → m ≡ get_or ms i m → slice_get ms i ≡ Some m
mention_at [] i m h e = absurd (omega arith)
mention_at (l ∷ ms) zero m h e = ap Some (sym e)
mention_at (l ∷ ms) (suc i) m h e = mention_at ms i m (omega arith) e

pub tried_each : (dead : Family → Bool) (listed : List ℕ) (D F : Family) (n : ℕ) (r : Bool) → TryingShared dead listed listed D F n r → length listed ≤ n → TriesEach dead listed D F (Some r)
tried_each dead listed D F n false s e = let t = shared_end dead listed listed D F n false s e in (t.0, λ x v l m. t.1 x v l l m)
tried_each dead listed D F n true s e = shared_end dead listed listed D F n true s e

pub ended_variable : (dead : Family → Bool) (D F : Family) (x : ℕ) (o : Option Bool) → o ≡ None → HasEnded dead D F → TriesVariable dead D F x o
ended_variable dead D F x o e h = subst (TriesVariable dead D F x) (sym e) h

pub ended_each : (dead : Family → Bool) (listed : List ℕ) (D F : Family) (o : Option Bool) → o ≡ None → HasEnded dead D F → TriesEach dead listed D F o
ended_each dead listed D F o e h = subst (TriesEach dead listed D F) (sym e) h

pub in_list : (ms : List Mention) (i : ℕ) → i < length ms → i < length (variables ms)
in_list ms i h = omega (arith, h, length_variables ms)

pub variable_there : (ms : List Mention) (i : ℕ) (m : Mention) (F : Family) → i < length ms → m ≡ get_or ms i m → AreThere (variables ms) F → m.variable < length F
variable_there ms i m F h e t = subst (λ x. x < length F) (variable_at ms i m h e) (t (get_or (variables ms) i 0) (listed_at (variables ms) i (in_list ms i h)))

pub next_shared : (dead : Family → Bool) (ms : List Mention) (D F G : Family) (n : ℕ) (m : Mention) (b r : Bool) → n < length ms → m ≡ get_or ms n m → TryingShared dead (variables ms) (variables ms) D F n b → TriesVariable dead F G m.variable (Some r) → TryingShared dead (variables ms) (variables ms) D G (n + 1) (b || r)
next_shared dead ms D F G n m b r h e s t =
    shared_next dead (variables ms) (variables ms) D F G n b r (in_list ms n h) s
    (as_listed dead (variables ms) F G (get_or (variables ms) n 0) r (subst (λ x. TriesVariable dead F G x (Some r)) (sym (variable_at ms n m h e)) t))

-- mentions that are read from a slice
pub read_length : (ms xs : List Mention) (i : ℕ) → xs ≡ ms → i < length xs → i < length ms
read_length ms xs i e h = subst (λ ys. i < length ys) e h

pub read_item : (ms xs : List Mention) (i : ℕ) (m : Mention) → xs ≡ ms → m ≡ get_or xs i m → m ≡ get_or ms i m
read_item ms xs i m e h = subst (λ ys. m ≡ get_or ys i m) e h

-- ---- after a look

pub not_refuted : (core : Core) (s : Sum) (F : Family) (kept : Span) (xs : List Addend) → xs ≡ s.addends → Some kept ≡ total F (plains core xs) → is_refuted_by s.demand kept ≡ false → is_refuted core s F ≡ false
not_refuted core s F kept xs e h k = ap (is_refuted_if s.demand) (sym (h ∙ ap (λ ys. total F (plains core ys)) e)) ∙ k

pub look_dead : (dead : Family → Bool) (D : Family) → IsFamily D → IsMonotone dead → dead D ≡ true → Looks dead D D (Some outcome.Failed)
look_dead dead D f m h = (nothing_between dead D f, dead_has_failed dead D m h)

pub look_ended : (dead : Family → Bool) (D F : Family) → IsFamily D → HasEnded dead D F → Looks dead D F (Some outcome.Failed)
look_ended dead D F f e = (left_between dead D F f e.0, e.1)

pub look_again : (dead : Family → Bool) (listed : List ℕ) (D F : Family) (r : Bool) → r ≡ true → TriesEach dead listed D F (Some r) → Looks dead D F None
look_again dead listed D F true e t = t
look_again dead listed D F false e t = cc

pub sum_stable : (core : Core) (s : Sum) (D F : Family) (r : Bool) → IsSum core s → IsFamily D → is_refuted core s D ≡ false → r ≡ false → TriesEach (is_refuted core s) (variables s.mentions) D F (Some r) → Looks (is_refuted core s) D F (Some outcome.Stable)
sum_stable core s D F true i f h e t = cc
sum_stable core s D F false i f h e t =
    let dead = is_refuted core s in
    let stable : IsStable dead D = record {
      full = f.full;
      spared = h;
      each = λ x v l m. elim (lists (variables s.mentions) x) as (λ b. lists (variables s.mentions) x ≡ b → dead (only D x v) ≡ false) [
        | true ↦ λ k. t.1 x v k m
        | false ↦ λ k. unmentioned s.demand D x v (plains core s.addends) f.full (i.covered x k) ∙ h
      ] refl;
    } in
    subst (λ G. Looks dead D G (Some outcome.Stable)) (sym t.0)
    (nothing_between dead D f, record { is_stable = record { stable = stable; within = below_self D }; most = λ G g. g.within })
