-- The sum that is made for a comparison.
use Rattle.std.proofs.Common.{◌≡◌, ◌∙◌, ℕ, zero, suc, ◌+◌, ◌<◌, ◌≤◌, Bool, true, false, ◌||◌, refl, List, [], ◌∷◌, map, length, ap, sym, subst, arith}
use Rattle.std.specs.Prelude.{Option, Some, None, slice_get, nat_eq}
use Rattle.std.proofs.lemmas.Bool.Decides.{Decides-eqb}
use Rattle.opl_domain.specs.Span.{values}
use Rattle.opl_domain.specs.Family.{Family, Below, Full}
use Rattle.opl_expr.specs.declared.model.Core.{Core}
use Rattle.opl_expr.specs.declared.forms.Cons.{Cons}
use Rattle.opl_expr.specs.declared.forms.Cons.TheVariants as C
use Rattle.opl_expr.specs.declared.forms.Cons.TheOpen.{Cons-F}
use Rattle.opl_expr.specs.declared.forms.Cons.TheViews.{out-Cons, out-roll-Cons}
use Rattle.opl_expr.specs.declared.forms.Expr.{Expr}
use Rattle.opl_expr.specs.declared.forms.Op.{Op}
use Rattle.opl_expr.specs.Forms.{Term, Fact, fact, compared}
use Rattle.opl_expr.specs.Solutions.{declared}
use Rattle.opl_expr.specs.Sound.{IsSoundFact}
use Rattle.opl_expr.proofs.Plain.{fact_Cmp}
use Rattle.opl_filter.specs.Mentions.{lists, mentions, AreVariables}
use Rattle.opl_filter.specs.Filtering.{refutes}
use Rattle.opl_filter.specs.Rounds.{AreThere}
use Rattle.opl_filter.proofs.Mentioned.{variables_there}
use Rattle.opl_filter.proofs.Refuting.{refutes_falls}
use Rattle.opl_range.specs.Between.{term_of, is_pure_between}
use Rattle.opl_reify.proofs.Carrying.{SaysTheSameWithin}
use Rattle.opl_trace.proofs.Families.{below_self}
use Rattle.opl_trace.specs.Stable.{IsMonotone}
use Rattle.opl_addends.specs.declared.sum.Addend.{Addend}
use Rattle.opl_addends.specs.declared.sum.Demand.{Demand}
use Rattle.opl_addends.specs.declared.sum.Mention.{Mention}
use Rattle.opl_addends.specs.declared.sum.Sum.{Sum}
use Rattle.opl_addends.specs.Addends.{plains, mentioning, with_factor, AreApart, CanAdd}
use Rattle.opl_addends.specs.Demands.{demand_of, addends_of, is_sum_refuted}
use Rattle.opl_addends.specs.Sums.{is_refuted, IsMention, variables}
use Rattle.opl_addends.specs.Making.{AreMentions, AreMentionsOf}
use Rattle.opl_addends.specs.Apart.{AreNumbered, AreOnceIf}
use Rattle.opl_addends.specs.AddendsFilters.{HasAddends, HaveAddends, IsMadeOf, IsMadeForSides, ComparesAddends}
use Rattle.opl_addends.proofs.Deciding.{addends_decide}
use Rattle.opl_addends.proofs.Sounding.{compared_can_add, compared_mentions}
use Rattle.opl_addends.proofs.Counting.{all_apart}

length_map : {A B : Type 0} (f : A → B) (xs : List A) → length (map f xs) ≡ length xs
length_map f [] = refl
length_map f (x ∷ xs) = omega (arith, length_map f xs)

declared_length : (core : Core) → length (declared core) ≡ length core.sets
unfolding declared
declared_length core = length_map (λ p. values (record { low = p.0; high = p.1 })) core.sets

-- the mention at a place
mention_of : (core : Core) (addends : List Addend) (ms : List Mention) (i : ℕ) (m : Mention) → AreMentions core addends ms → slice_get ms i ≡ Some m → IsMention core addends m
mention_of core addends [] i m h e = cc
mention_of core addends (l ∷ ms) zero m h e = let s : l ≡ m = cc in subst (IsMention core addends) s h.0
mention_of core addends (l ∷ ms) (suc i) m h e = mention_of core addends ms i m h.1 e

same_listed : (x : ℕ) (b : Bool) → (nat_eq x x || b) ≡ true
same_listed x b = ap (λ c. c || b) ((Decides-eqb x x).1 refl)

or_right : (a b : Bool) → b ≡ true → (a || b) ≡ true
or_right true b h = refl
or_right false b h = h

numbered : (core : Core) (addends : List Addend) (ms : List Mention) → ((x : ℕ) → lists (variables ms) x ≡ true → x + 1 < 4294967296) → AreMentions core addends ms → AreNumbered core addends ms
numbered core addends [] n h = tt
numbered core addends (m ∷ ms) n h =
    (h.0, n m.variable (same_listed m.variable (lists (variables ms) m.variable)), numbered core addends ms (λ x k. n x (or_right (nat_eq x m.variable) (lists (variables ms) x) k)) h.1)

module _ (core : Core) (op : Op) (a b : Expr) (c : Cons) (found : List Addend) (xs : List ℕ) (ms : List Mention)
    (i : c ≡ C.Cmp op a b) (s : IsSoundFact core.sets (compared op (term_of core a) (term_of core b)))
    (has : HasAddends core op a b found) (named : AreVariables xs (fact core.tables core.resources c)) (are : AreMentionsOf core found xs ms) where
  abbrev constraint : Fact
  constraint = compared op (term_of core a) (term_of core b)

  is_fact : fact core.tables core.resources c ≡ constraint
  is_fact = ap (fact core.tables core.resources) i ∙ fact_Cmp core.tables core.resources op a b

  listed_are : (x : ℕ) → lists (variables ms) x ≡ mentions constraint x
  listed_are x = ap (λ ys. lists ys x) are.are ∙ named x ∙ ap (λ f. mentions f x) is_fact

  there : (F : Family) → Below F (declared core) → AreThere (variables ms) F
  there F k = variables_there core constraint (variables ms) F s k listed_are

  covered : (x : ℕ) → lists (variables ms) x ≡ false → mentioning x (plains core found) ≡ []
  covered x h = ap (mentioning x) has.same ∙ compared_mentions x op (term_of core a) (term_of core b) (sym (listed_are x) ∙ h)

  pub found_can_add : CanAdd core.sets (plains core found)
  found_can_add = subst (CanAdd core.sets) (sym has.same) (compared_can_add core.sets op (term_of core a) (term_of core b) s)

  pub found_numbered : length core.sets < 4294967296 → AreNumbered core found ms
  found_numbered few = numbered core found ms (λ x h. omega (arith, few, declared_length core, there (declared core) (below_self (declared core)) x h)) are.each

  not_apart : (r : Bool) → r ≡ false → AreOnceIf (plains core found) (variables ms) r → HaveAddends core op a b → ⊥
  not_apart false e h k = h (λ x l. subst (λ ss. with_factor x ss ≤ 1) (sym has.same) (k.apart x))
  not_apart true e h k = cc

  pub none_made : (r : Bool) → r ≡ false → AreOnceIf (plains core found) (variables ms) r → IsMadeForSides core op a b None
  none_made r e h = not_apart r e h

  apart : (r : Bool) → r ≡ true → AreOnceIf (plains core found) (variables ms) r → AreApart (addends_of op (term_of core a) (term_of core b))
  apart true e h = subst AreApart has.same (all_apart (variables ms) (plains core found) h covered)
  apart false e h = cc

  module _ (mixed : is_pure_between core a b ≡ false) (r : Bool) (e : r ≡ true) (once : AreOnceIf (plains core found) (variables ms) r) where
    same : (F : Family) → Full F → refutes constraint F ≡ is_sum_refuted (demand_of op) (plains core found) F
    same F f = addends_decide op (term_of core a) (term_of core b) F f mixed (apart r e once) ∙ ap (λ ss. is_sum_refuted (demand_of op) ss F) (sym has.same)

    full_above : (F G : Family) → Full F → Below F G → Full G
    full_above F G f k x l = let v = f x (omega (arith, l, k.same)) in (v.0, k.sub x v.0 v.1)

    falls : IsMonotone (is_sum_refuted (demand_of op) (plains core found))
    falls = record { falls = λ F G f k h. sym (same F f) ∙ (refutes_falls constraint).falls F G f k (same G (full_above F G f k) ∙ h) }

    pub sum_made : IsMadeForSides core op a b (Some (record { demand = demand_of op; addends = found; mentions = ms }))
    sum_made = (
      record { mixed = mixed; apart = apart r e once },
      record {
        sum = record {
          can_add = found_can_add;
          falls = falls;
          each = λ j m h. mention_of core found ms j m are.each h;
          there = there;
          covered = covered;
        };
        same = same;
      },
    )

    pub sum_read : (d : Demand) → d ≡ demand_of op → IsMadeForSides core op a b (Some (record { demand = d; addends = found; mentions = ms }))
    sum_read d j = subst (λ k. IsMadeForSides core op a b (Some (record { demand = k; addends = found; mentions = ms }))) (sym j) sum_made

-- ---- as they are read from slices

pub mentions_read : (core : Core) (found slice : List Addend) (xs ys : List ℕ) (ms : List Mention) → slice ≡ found → ys ≡ xs → AreMentionsOf core slice ys ms → AreMentionsOf core found xs ms
mentions_read core found slice xs ys ms e f h = subst (λ zs. AreMentionsOf core found zs ms) f (subst (λ zs. AreMentionsOf core zs ys ms) e h)

pub once_read : (ss : List (Bool × Term)) (ms slice : List Mention) (r : Bool) → slice ≡ ms → AreOnceIf ss (variables slice) r → AreOnceIf ss (variables ms) r
once_read ss ms slice r e h = subst (λ ls. AreOnceIf ss (variables ls) r) e h

pub linear_sides : (core : Core) (op : Op) (a b : Expr) (r : Bool) → r ≡ true → r ≡ is_pure_between core a b → IsMadeForSides core op a b None
linear_sides core op a b r e h = λ k. let m = k.mixed in cc

pub of_same_sides : (core : Core) (op : Op) (a b a' b' : Expr) (r : Option Sum) → a' ≡ a → b' ≡ b → IsMadeForSides core op a' b' r → IsMadeForSides core op a b r
of_same_sides core op a b a' b' r e f h = subst (λ z. IsMadeForSides core op a z r) f (subst (λ z. IsMadeForSides core op z b' r) e h)

pub says_the_same : (core : Core) (c : Fact) (s : Sum) (D : Family) → IsMadeOf core c s → SaysTheSameWithin D (is_refuted core s) (refutes c)
says_the_same core c s D m F f b = sym (m.same F f)

-- ---- the constraint itself

pub cmp_is : (op : Op) (a b a' b' : Expr) (c : Cons) → c ≡ C.Cmp op a b → a' ≡ a → b' ≡ b → c ≡ C.Cmp op a' b'
cmp_is op a b a' b' c i e f = i ∙ ap (λ z. C.Cmp op z b) (sym e) ∙ ap (λ z. C.Cmp op a' z) (sym f)

pub cmp_sound : (core : Core) (op : Op) (a b : Expr) (c : Cons) → c ≡ C.Cmp op a b → IsSoundFact core.sets (fact core.tables core.resources c) → IsSoundFact core.sets (compared op (term_of core a) (term_of core b))
cmp_sound core op a b c i s = subst (IsSoundFact core.sets) (ap (fact core.tables core.resources) i ∙ fact_Cmp core.tables core.resources op a b) s

pub filter_made : (core : Core) (op : Op) (a b : Expr) (c : Cons) (s : Sum) (r : Option Sum) → c ≡ C.Cmp op a b → r ≡ Some s → IsMadeForSides core op a b r → IsMadeOf core (fact core.tables core.resources c) s
filter_made core op a b c s r i j h =
    let m = subst (IsMadeForSides core op a b) j h in
    subst (λ f. IsMadeOf core f s) (sym (ap (fact core.tables core.resources) i ∙ fact_Cmp core.tables core.resources op a b)) m.1

pub filter_there : (core : Core) (op : Op) (a b : Expr) (c : Cons) (s : Sum) (r : Option Sum) → c ≡ C.Cmp op a b → r ≡ Some s → IsMadeForSides core op a b r → ComparesAddends core c
filter_there core op a b c s r i j h = let m = subst (IsMadeForSides core op a b) j h in record { op = op; left = a; right = b; is = i; sides = m.0 }

out_Cmp : (op : Op) (a b : Expr) → out-Cons (C.Cmp op a b) ≡ Cons-F.Cmp op a b
out_Cmp op a b = ap out-Cons (sym (C.rolls-Cmp op a b)) ∙ out-roll-Cons (Cons-F.Cmp op a b)

-- the sides of a comparison are so
abbrev SidesAre : Core → Cons-F Cons Expr → Type 0
SidesAre core (Cons-F.Cmp op a b) = HaveAddends core op a b
SidesAre core _ = ⊥

pub none_there : (core : Core) (op : Op) (a b : Expr) (c : Cons) (r : Option Sum) → c ≡ C.Cmp op a b → r ≡ None → IsMadeForSides core op a b r → ComparesAddends core c → ⊥
none_there core op a b c r i j h k =
    let n = subst (IsMadeForSides core op a b) j h in
    let e : Cons-F.Cmp k.op k.left k.right ≡ Cons-F.Cmp op a b = sym (out_Cmp k.op k.left k.right) ∙ ap out-Cons (sym k.is ∙ i) ∙ out_Cmp op a b in
    n (subst (SidesAre core) e k.sides)
