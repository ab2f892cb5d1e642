-- What is known once literals were forced.
use Rattle.std.proofs.Common.{◌≡◌, ◌∙◌, ℕ, ◌+◌, ◌≤◌, ◌<◌, Bool, true, false, List, length, inl, inr, ap, sym, subst, arith}
use Rattle.std.specs.Prelude.{slice_get, Some, None}
use Rattle.std.proofs.lemmas.Bool.{cases_eq}
use Rattle.std.proofs.lemmas.Bool.Decides.{leb_tells}
use Rattle.opl_domain.specs.Family.{Family, IsFamily, only, Full}
use Rattle.opl_expr.specs.declared.model.Core.{Core}
use Rattle.opl_trace.specs.Stable.{IsStable, IsGreatestStable, HasFailed}
use Rattle.opl_trace.specs.Sweeps.{size}
use Rattle.opl_trace.proofs.Families.{has_at, below_self}
use Rattle.opl_filter.specs.Mentions.{lists}
use Rattle.opl_filter.specs.Filtering.{refutes, IsLeftOf, IsBetween}
use Rattle.opl_filter.specs.Rounds.{NoneDead}
use Rattle.opl_filter.proofs.Mentioned.{refutes_looks}
use Rattle.opl_filter.proofs.Removals.{left_self, left_join, left_kept}
use Rattle.opl_reify.specs.Rounds.{TriesShared}
use Rattle.opl_reify.proofs.Looking.{dead_has_failed, stuck_has_failed}
use Rattle.opl_count.specs.declared.sum.Literal.{Literal}
use Rattle.opl_count.specs.declared.sum.Costs.{Costs}
use Rattle.opl_count.specs.declared.sum.Tie.{Tie}
use Rattle.opl_count.specs.declared.sum.Sum.{Sum}
use Rattle.opl_count.specs.Costs.{fact_of, prices, HaveParts, is_over}
use Rattle.opl_count.specs.Sums.{IsAlone, IsSum, IsOpenAt, IsDearAt}
use Rattle.opl_count.specs.Forcing.{Settles, SettlesAt, IsForcedAt, Forces}
use Rattle.opl_count.proofs.Implied.{Implies, left_implied, failed_implied, same_or_smaller}
use Rattle.opl_count.proofs.Prices.{the_one, part_at, within, some_there, is_less, not_less, not_less_is, over_falls, prices_with, prices_same, prices_on, open_or_same}

-- ---- by its own filter

-- where the literal is refuted more is paid than there is room for
dear_implies : (core : Core) (c : Costs) (D : Family) (i : ℕ) (l : Literal) → slice_get c.literals i ≡ Some l → IsOpenAt core D c.literals i → IsDearAt core D c i → Implies D (refutes (fact_of core l)) (is_over core c)
dear_implies core c D i l h o d F f b r =
    let p = prices_with core F D c.literals i l f b h (o l h) r in
    let e = d l h in
    is_less c.room (c.paid + prices core F c.literals) (omega (arith, p, e))

pub own_failed : (core : Core) (c : Costs) (D F : Family) (i : ℕ) (l : Literal) → IsFamily D → slice_get c.literals i ≡ Some l → IsOpenAt core D c.literals i → IsDearAt core D c i → IsBetween (refutes (fact_of core l)) D F
    → HasFailed (refutes (fact_of core l)) D → SettlesAt core c D F i false
own_failed core c D F i l f h o d b n =
    let m = dear_implies core c D i l h o d in
    (left_implied D (refutes (fact_of core l)) (is_over core c) m D F f (below_self D) b.removals, failed_implied D (refutes (fact_of core l)) (is_over core c) m n)

-- no value of an open literal that is alone makes another one refuted
alone_spared : (core : Core) (c : Costs) (F : Family) (i : ℕ) (l : Literal) → HaveParts core c.literals → slice_get c.literals i ≡ Some l → IsAlone c.literals i → refutes (fact_of core l) F ≡ false → IsStable (refutes (fact_of core l)) F
    → is_over core c F ≡ false → NoneDead (is_over core c) l.part.variables F
alone_spared core c F i l a h n o s e x v k m =
    let p = prices_same core (only F x v) F c.literals (λ j q g. elim (cases_eq j i) [
      | inl z ↦
          let t : l ≡ q = the_one l q (sym h ∙ ap (slice_get c.literals) (sym z) ∙ g) in
          subst (λ (y : Literal). refutes (fact_of core y) (only F x v) ≡ refutes (fact_of core y) F) t (s.each x v (has_at F x v m) m ∙ sym o)
      | inr d ↦ refutes_looks (fact_of core q) q.part.variables (part_at core c.literals j q a g).named F x v s.full (n j l q h g d x k)
    ]) in
    let w = not_less_is c.room (c.paid + prices core F c.literals) e in
    not_less c.room (c.paid + prices core (only F x v) c.literals) (omega (arith, p, w))

pub own_stable : (core : Core) (c : Costs) (D F : Family) (i : ℕ) (l : Literal) → IsFamily D → HaveParts core c.literals → slice_get c.literals i ≡ Some l → IsAlone c.literals i → IsOpenAt core D c.literals i → IsDearAt core D c i
    → IsBetween (refutes (fact_of core l)) D F → IsGreatestStable (refutes (fact_of core l)) D F → SettlesAt core c D F i true
own_stable core c D F i l f a h n o d b g = (
  left_implied D (refutes (fact_of core l)) (is_over core c) (dear_implies core c D i l h o d) D F f (below_self D) b.removals,
  λ e s q k.
      let t : l ≡ q = the_one l q (sym h ∙ k) in
      let r = subst (λ G. IsStable (refutes (fact_of core l)) G) e g.is_stable.stable in
      subst (λ (y : Literal). NoneDead (is_over core c) y.part.variables D) t (alone_spared core c D i l a h n (o l h) r s),
)

-- ---- by values

pub values_failed : (core : Core) (c : Costs) (D F : Family) (i : ℕ) (xs ys : List ℕ) → TriesShared (is_over core c) xs ys D F None → SettlesAt core c D F i false
values_failed core c D F i xs ys s = (s.removals, stuck_has_failed (is_over core c) D F (over_falls core c) s)

pub values_tried : (core : Core) (c : Costs) (D F : Family) (i : ℕ) (l : Literal) (xs : List ℕ) (r : Bool) → slice_get c.literals i ≡ Some l → xs ≡ l.part.variables → TriesShared (is_over core c) xs xs D F (Some r) → SettlesAt core c D F i true
values_tried core c D F i l xs false h e t = (
  subst (λ G. IsLeftOf (is_over core c) D G) (sym t.0) (left_self (is_over core c) D),
  λ s o q k x v n m.
      let w : lists xs x ≡ true = ap (λ ys. lists ys x) (e ∙ ap (λ (y : Literal). y.part.variables) (the_one l q (sym h ∙ k))) ∙ n in
      t.1 x v w w m,
)
values_tried core c D F i l xs true h e t = (t.removals, λ s. absurd (let k = t.smaller in let j = ap size s in omega (arith, k, j)))

-- ---- one literal

pub none_forced : (core : Core) (s : Sum) (D : Family) (i slack : ℕ) → IsForcedAt core s slack D i → Forces core s D D i slack true
none_forced core s D i slack h = (left_self (is_over core s.costs) D, λ e o. h)

pub short_tie : (core : Core) (s : Sum) (D : Family) (i slack : ℕ) (t : Tie) → slice_get s.ties i ≡ Some t → t.reach ≤ slack → IsForcedAt core s slack D i
short_tie core s D i slack t h l u k d o = absurd (let e = ap (λ (z : Tie). z.reach) (the_one t u (sym h ∙ k)) in omega (arith, l, d, e))

pub refuted_one : (core : Core) (s : Sum) (D : Family) (i slack : ℕ) (l : Literal) → slice_get s.costs.literals i ≡ Some l → refutes (fact_of core l) D ≡ true → IsForcedAt core s slack D i
refuted_one core s D i slack l h r t k d o = absurd (let e = o l h in cc)

pub settled_forces : (core : Core) (s : Sum) (D F : Family) (i slack : ℕ) (b : Bool) → SettlesAt core s.costs D F i b → Forces core s D F i slack b
settled_forces core s D F i slack false h = h
settled_forces core s D F i slack true h = (h.0, λ e o t k d u. h.1 e o)

-- ---- all literals

-- the first n literals were forced
pub record HasForced (core : Core) (s : Sum) (slack : ℕ) (D F : Family) (n : ℕ) : Type 0 where
  pub removals : IsLeftOf (is_over core s.costs) D F
  pub forced : F ≡ D → (i : ℕ) → i < n → IsForcedAt core s slack D i

pub forced_first : (core : Core) (s : Sum) (slack : ℕ) (D : Family) → HasForced core s slack D D 0
forced_first core s slack D = record { removals = left_self (is_over core s.costs) D; forced = λ e i l. absurd (omega (arith, l)) }

-- none has gone where none has in the end
pub both_same : (dead : Family → Bool) (D F G : Family) → IsLeftOf dead D F → IsLeftOf dead F G → G ≡ D → F ≡ D
both_same dead D F G a b e = elim (same_or_smaller dead D F a) [
  | inl s ↦ s
  | inr l ↦ elim (same_or_smaller dead F G b) [
    | inl s ↦ sym s ∙ e
    | inr k ↦ absurd (let j = ap size e in omega (arith, l, k, j))
  ]
]

pub forced_next : (core : Core) (s : Sum) (slack : ℕ) (D F G : Family) (n : ℕ) → is_over core s.costs D ≡ false → HasForced core s slack D F n → Forces core s F G n slack true → HasForced core s slack D G (n + 1)
forced_next core s slack D F G n o a t = record {
  removals = left_join (is_over core s.costs) D F G a.removals t.0;
  forced = λ e i l.
      let h = both_same (is_over core s.costs) D F G a.removals t.0 e in
      elim (cases_eq i n) [
        | inl j ↦ subst (λ k. IsForcedAt core s slack D k) (sym j) (subst (λ H. IsForcedAt core s slack H n) h (t.1 (e ∙ sym h) (ap (is_over core s.costs) h ∙ o)))
        | inr d ↦ a.forced h i (omega (arith, l, d))
      ];
}

pub forced_failed : (core : Core) (s : Sum) (slack : ℕ) (D F G : Family) (n : ℕ) → HasForced core s slack D F n → Forces core s F G n slack false → Settles (is_over core s.costs) D G false
forced_failed core s slack D F G n a t =
    let dead = is_over core s.costs in
    let k = left_kept dead D F (over_falls core s.costs) a.removals in
    (left_join dead D F G a.removals t.0, λ H g. t.1 H (record { stable = g.stable; within = k.above H g.stable g.within }))

all_stable : (core : Core) (s : Sum) (slack : ℕ) (D : Family) → IsSum core s → Full D → s.costs.paid + prices core D s.costs.literals + slack ≡ s.costs.room → ((i : ℕ) → i < length s.costs.literals → IsForcedAt core s slack D i) → IsStable (is_over core s.costs) D
all_stable core s slack D m f e h = record {
  full = f;
  spared = not_less s.costs.room (s.costs.paid + prices core D s.costs.literals) (omega (arith, e));
  each = λ x v l k. elim (open_or_same core D x v s.costs.literals m.made.parts f k) [
    | inr q ↦ not_less s.costs.room (s.costs.paid + prices core (only D x v) s.costs.literals) (omega (arith, q, e))
    | inl o ↦
        let w = within s.costs.literals o.place o.literal o.there in
        let t = some_there s.ties o.place (omega (arith, w, m.ties.same)) in
        let r = (m.ties.each o.place t.0 t.1).reach o.literal o.there x o.named in
        let p = prices_on core D x v s.costs.literals m.made.parts f in
        elim (leb_tells t.0.reach slack) [
          | inl a ↦ not_less s.costs.room (s.costs.paid + prices core (only D x v) s.costs.literals) (let b = a.1 in omega (arith, r, p, e, b))
          | inr a ↦
              let y = h o.place w t.0 t.1 a.1 (λ q g. subst (λ (z : Literal). refutes (fact_of core z) D ≡ false) (the_one o.literal q (sym o.there ∙ g)) o.not_refuted) in
              y o.literal o.there x v o.named k
        ]
  ];
}

pub forced_all : (core : Core) (s : Sum) (slack : ℕ) (D F : Family) (n : ℕ) → IsSum core s → Full D → s.costs.paid + prices core D s.costs.literals + slack ≡ s.costs.room → HasForced core s slack D F n → length s.costs.literals ≤ n → Settles (is_over core s.costs) D F true
forced_all core s slack D F n m f e a l = (a.removals, λ h. all_stable core s slack D m f e (λ i k. a.forced h i (omega (arith, l, k))))

pub over_settles : (core : Core) (s : Sum) (D : Family) → is_over core s.costs D ≡ true → Settles (is_over core s.costs) D D false
over_settles core s D h = (left_self (is_over core s.costs) D, dead_has_failed (is_over core s.costs) D (over_falls core s.costs) h)

pub cost_read : (core : Core) (D : Family) (n : ℕ) (ls xs : List Literal) (r : ℕ) → xs ≡ ls → r ≡ n + prices core D xs → r ≡ n + prices core D ls
cost_read core D n ls xs r e h = h ∙ ap (λ ys. n + prices core D ys) e

pub last_read : (ls xs : List Literal) (n : ℕ) → xs ≡ ls → length xs ≤ n → length ls ≤ n
last_read ls xs n e h = subst (λ ys. length ys ≤ n) e h
