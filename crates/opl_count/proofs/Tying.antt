-- Ties, as they are made.
use Rattle.std.proofs.Common.{◌≡◌, ◌∙◌, ◌≢◌, ℕ, zero, suc, ◌+◌, ◌-◌, ◌≤◌, ◌<◌, Bool, true, false, cond, ◌||◌, refl, List, [], ◌∷◌, ◌++◌, length, get_or, drop, inl, inr, ap, sym, subst, arith}
use Rattle.std.specs.Prelude.{◌^◌, nat_eq, slice_get, Some}
use Rattle.std.specs.List.{list_any}
use Rattle.std.proofs.lemmas.Bool.{or_cases, cases_eq}
use Rattle.std.proofs.lemmas.Bool.Decides.{Decides-eqb}
use Rattle.opl_filter.specs.Mentions.{lists}
use Rattle.opl_range.proofs.Parts.{part_before}
use Rattle.opl_reify.proofs.Trying.{listed_is}
use Rattle.opl_count.specs.declared.sum.Literal.{Literal}
use Rattle.opl_count.specs.declared.sum.Tie.{Tie}
use Rattle.opl_count.specs.Costs.{weights, weights_on}
use Rattle.opl_count.specs.Sums.{AreApart, IsAlone, IsTie, AreTies}
use Rattle.opl_count.specs.Ties.{Shares, AreApartAt, Hangs, SharesWeight, Reaches}
use Rattle.opl_count.proofs.Prices.{the_one, within, some_there, there_or}

-- ---- two lists

end_drop : {A : Type 0} (xs : List A) → [] ≡ drop (length xs) xs
end_drop [] = refl
end_drop (x ∷ xs) = end_drop xs

pub apart_first : (xs ys : List ℕ) → AreApart (drop (length xs) xs) ys
apart_first xs ys = subst (λ zs. AreApart zs ys) (end_drop xs) (λ x h. cc)

get_any : {A : Type 0} (xs : List A) (i : ℕ) (d e : A) → i < length xs → get_or xs i d ≡ get_or xs i e
get_any [] i d e l = absurd (omega arith)
get_any (x ∷ xs) zero d e l = refl
get_any (x ∷ xs) (suc i) d e l = get_any xs i d e (omega arith)

pub apart_next : (xs ys : List ℕ) (n : ℕ) (b : Bool) → 0 < n → n ≤ length xs → AreApart (drop n xs) ys → b ≡ list_any (λ y. nat_eq y (get_or xs (n - 1) 0)) ys → b ≡ false → AreApart (drop (n - 1) xs) ys
apart_next xs ys n b p l a h k =
    let x = get_or xs (n - 1) 0 in
    let e : x ≡ get_or xs (n - 1) x = get_any xs (n - 1) 0 x (omega (arith, p, l)) in
    subst (λ zs. AreApart zs ys) (sym (part_before xs n x p l e)) (λ y m. elim (or_cases (nat_eq y x) (lists (drop n xs) y) m) [
      | inl i ↦ ap (lists ys) ((Decides-eqb y x).0 i) ∙ sym (listed_is ys x) ∙ sym h ∙ k
      | inr i ↦ a y i
    ])

pub apart_all : (xs ys : List ℕ) (n : ℕ) → n ≤ 0 → AreApart (drop n xs) ys → AreApart xs ys
apart_all xs ys n l a = subst (λ zs. AreApart zs ys) (drop_none xs) (subst (λ m. AreApart (drop m xs) ys) (none n l) a)
  where
    none : (n : ℕ) → n ≤ 0 → n ≡ 0
    none n l = omega (arith, l)

    drop_none : {A : Type 0} (xs : List A) → drop 0 xs ≡ xs
    drop_none [] = refl
    drop_none (x ∷ xs) = refl

listed_at : (xs : List ℕ) (i : ℕ) → i < length xs → lists xs (get_or xs i 0) ≡ true
listed_at [] i h = absurd (omega arith)
listed_at (x ∷ xs) zero h = ap (λ c. c || lists xs x) ((Decides-eqb x x).1 refl)
listed_at (x ∷ xs) (suc i) h = or_later (nat_eq (get_or xs i 0) x) (lists xs (get_or xs i 0)) (listed_at xs i (omega arith))
  where
    or_later : (a b : Bool) → b ≡ true → (a || b) ≡ true
    or_later true b h = refl
    or_later false b h = h

pub found : (xs ys : List ℕ) (n : ℕ) (b : Bool) → 0 < n → n ≤ length xs → b ≡ list_any (λ y. nat_eq y (get_or xs (n - 1) 0)) ys → b ≡ true → Shares xs ys true
found xs ys n b p l h k = let x = get_or xs (n - 1) 0 in (x, listed_at xs (n - 1) (omega (arith, p, l)), sym (listed_is ys x) ∙ sym h ∙ k)

-- ---- two literals

pub same_place : (ls : List Literal) (i j : ℕ) → j ≡ i → AreApartAt ls i j
same_place ls i j e l m h k n = absurd (n e)

not_apart : (xs ys : List ℕ) → Shares xs ys true → AreApart xs ys → ⊥
not_apart xs ys s a = let f = a s.0 s.1 in let t = s.2 in cc

pub hangs_as : (ls : List Literal) (i j : ℕ) (l m : Literal) (xs ys : List ℕ) (b : Bool) → slice_get ls i ≡ Some l → slice_get ls j ≡ Some m → xs ≡ l.part.variables → ys ≡ m.part.variables → j ≢ i → Shares xs ys b → Hangs ls i j b
hangs_as ls i j l m xs ys false h k e f n s = λ p q g o d.
    subst (λ (z : Literal). AreApart z.part.variables q.part.variables) (the_one l p (sym h ∙ g))
    (subst (λ (z : Literal). AreApart l.part.variables z.part.variables) (the_one m q (sym k ∙ o)) (subst (λ zs. AreApart zs m.part.variables) e (subst (λ zs. AreApart xs zs) f s)))
hangs_as ls i j l m xs ys true h k e f n s = λ a. not_apart xs ys s (subst (λ zs. AreApart zs ys) (sym e) (subst (λ zs. AreApart l.part.variables zs) (sym f) (a l m h k n)))

pub shares_as : (ls : List Literal) (i j : ℕ) (l m : Literal) (xs ys : List ℕ) (b : Bool) → slice_get ls i ≡ Some l → slice_get ls j ≡ Some m → xs ≡ l.part.variables → ys ≡ m.part.variables → Shares xs ys b → SharesWeight ls i j (cond b m.weight 0)
shares_as ls i j l m xs ys b h k e f s p q g o =
    let u = the_one l p (sym h ∙ g) in
    let v = the_one m q (sym k ∙ o) in (
      subst (λ (z : Literal). cond b m.weight 0 ≤ z.weight) v (most b m.weight),
      λ x n.
          subst (λ (z : Literal). cond (lists z.part.variables x) z.weight 0 ≤ cond b m.weight 0) v
          (part b s x (subst (λ (z : Literal). lists z.part.variables x ≡ true) (sym u) n)),
    )
  where
    most : (b : Bool) (w : ℕ) → cond b w 0 ≤ w
    most true w = omega arith
    most false w = omega arith

    part : (b : Bool) → Shares xs ys b → (x : ℕ) → lists l.part.variables x ≡ true → cond (lists m.part.variables x) m.weight 0 ≤ cond b m.weight 0
    part true s x n = most (lists m.part.variables x) m.weight
    part false s x n =
        let r : lists m.part.variables x ≡ false = ap (λ zs. lists zs x) (sym f) ∙ s x (ap (λ zs. lists zs x) e ∙ n) in
        rw r (omega arith)

-- ---- one literal and all others

pub alone_next : (ls : List Literal) (i n : ℕ) → ((j : ℕ) → j < n → AreApartAt ls i j) → AreApartAt ls i n → (j : ℕ) → j < n + 1 → AreApartAt ls i j
alone_next ls i n h k j l = elim (cases_eq j n) [
  | inl e ↦ subst (AreApartAt ls i) (sym e) k
  | inr d ↦ h j (omega (arith, l, d))
]

pub alone_all : (ls : List Literal) (i n : ℕ) → length ls ≤ n → ((j : ℕ) → j < n → AreApartAt ls i j) → IsAlone ls i
alone_all ls i n l h j p q g o d = let w = within ls j q o in h j (omega (arith, l, w)) p q g o d

pub not_alone : (ls : List Literal) (i j : ℕ) → (AreApartAt ls i j → ⊥) → IsAlone ls i → ⊥
not_alone ls i j h a = h (a j)

-- as much as the literals from place n on have that have a variable of the one at place i, and no more than all of these
pub record ReachesFrom (ls : List Literal) (i n w : ℕ) : Type 0 where
  pub most : w ≤ weights (drop n ls)
  pub reach : (l : Literal) → slice_get ls i ≡ Some l → (x : ℕ) → lists l.part.variables x ≡ true → weights_on x (drop n ls) ≤ w

pub reach_first : (ls : List Literal) (i : ℕ) → ReachesFrom ls i (length ls) 0
reach_first ls i = record { most = omega arith; reach = λ l h x m. let e = ap (weights_on x) (end_drop ls) in omega (arith, e) }

weights_drop : (ls : List Literal) (i : ℕ) → weights (drop i ls) ≤ weights ls
weights_drop [] zero = omega arith
weights_drop [] (suc i) = omega arith
weights_drop (l ∷ ls) zero = omega arith
weights_drop (l ∷ ls) (suc i) = omega (arith, weights_drop ls i)

last_there : (ls : List Literal) (n : ℕ) → 0 < n → n ≤ length ls → (m : Literal) × (slice_get ls (n - 1) ≡ Some m) × (drop (n - 1) ls ≡ m ∷ drop n ls)
last_there ls n p l =
    let m = some_there ls (n - 1) (omega (arith, p, l)) in
    (m.0, m.1, part_before ls n m.0 p l (the_one m.0 (get_or ls (n - 1) m.0) (sym m.1 ∙ there_or ls (n - 1) m.0 (omega (arith, p, l)))))

pub reach_fits : (ls : List Literal) (i n w v : ℕ) → 0 < n → n ≤ length ls → i < length ls → ReachesFrom ls i n w → SharesWeight ls i (n - 1) v → weights ls < 2 ^ 128 → w + v < 2 ^ 128
reach_fits ls i n w v p l k r s f =
    let m = last_there ls n p l in
    let o = some_there ls i k in
    let t = (s o.0 m.0 o.1 m.1).0 in
    let d = ap weights m.2 in
    omega (arith, r.most, t, d, f, weights_drop ls (n - 1))

pub reach_next : (ls : List Literal) (i n w v : ℕ) → 0 < n → n ≤ length ls → i < length ls → ReachesFrom ls i n w → SharesWeight ls i (n - 1) v → ReachesFrom ls i (n - 1) (w + v)
reach_next ls i n w v p l k r s =
    let m = last_there ls n p l in
    let o = some_there ls i k in
    record {
      most = let t = (s o.0 m.0 o.1 m.1).0 in let d = ap weights m.2 in omega (arith, r.most, t, d);
      reach = λ q h x g. let t = (s q m.0 h m.1).1 x g in let d = ap (weights_on x) m.2 in omega (arith, r.reach q h x g, t, d);
    }

pub reach_all : (ls : List Literal) (i n w : ℕ) → n ≤ 0 → ReachesFrom ls i n w → Reaches ls i w
reach_all ls i n w l r q h x g =
    let e = ap (λ k. weights_on x (drop k ls)) (none n l) ∙ ap (weights_on x) (drop_none ls) in
    omega (arith, r.reach q h x g, e)
  where
    none : (n : ℕ) → n ≤ 0 → n ≡ 0
    none n l = omega (arith, l)

    drop_none : {A : Type 0} (xs : List A) → drop 0 xs ≡ xs
    drop_none [] = refl
    drop_none (x ∷ xs) = refl

-- ---- ties

none_on : (x : ℕ) (ls : List Literal) → ((j : ℕ) (m : Literal) → slice_get ls j ≡ Some m → lists m.part.variables x ≡ false) → weights_on x ls ≡ 0
none_on x [] h = refl
none_on x (l ∷ ls) h = let e : cond (lists l.part.variables x) l.weight 0 ≡ 0 = ap (λ b. cond b l.weight 0) (h zero l refl) in omega (arith, e, none_on x ls (λ j m k. h (suc j) m k))

one_on : (x : ℕ) (ls : List Literal) (i : ℕ) (l : Literal) → slice_get ls i ≡ Some l → ((j : ℕ) (m : Literal) → slice_get ls j ≡ Some m → j ≢ i → lists m.part.variables x ≡ false) → weights_on x ls ≤ l.weight
one_on x [] i l h a = cc
one_on x (m ∷ ls) zero l h a =
    let r = none_on x ls (λ j q e. a (suc j) q e (λ s. omega (arith, s))) in
    let t = ap (λ (z : Literal). z.weight) (the_one m l h) in
    omega (arith, r, t, most (lists m.part.variables x) m.weight)
  where
    most : (b : Bool) (w : ℕ) → cond b w 0 ≤ w
    most true w = omega arith
    most false w = omega arith
one_on x (m ∷ ls) (suc i) l h a =
    let e : cond (lists m.part.variables x) m.weight 0 ≡ 0 = ap (λ b. cond b m.weight 0) (a zero m refl (λ s. omega (arith, s))) in
    omega (arith, e, one_on x ls i l h (λ j q k d. a (suc j) q k (λ s. d (omega (arith, s)))))

pub alone_tie : (ls : List Literal) (i : ℕ) (l : Literal) (n : ℕ) → slice_get ls i ≡ Some l → n ≡ l.weight → IsAlone ls i → IsTie ls i (record { reach = n; is_alone = true })
alone_tie ls i l n h e a = record {
  reach = λ m k x g. let o = one_on x ls i m k (λ j q s d. a j m q k s d x g) in let t = ap (λ (z : Literal). z.weight) (the_one l m (sym h ∙ k)) in omega (arith, o, t, e);
  own = λ t m k. e ∙ ap (λ (z : Literal). z.weight) (the_one l m (sym h ∙ k));
  apart = λ t. a;
}

pub other_tie : (ls : List Literal) (i n : ℕ) → Reaches ls i n → IsTie ls i (record { reach = n; is_alone = false })
other_tie ls i n r = record { reach = r; own = λ t. cc; apart = λ t. cc }

-- the ties of the first n literals
pub record AreFirstTies (ls : List Literal) (n : ℕ) (ts : List Tie) : Type 0 where
  pub same : length ts ≡ n
  pub each : (i : ℕ) (t : Tie) → slice_get ts i ≡ Some t → IsTie ls i t

pub ties_first : (ls : List Literal) (ts : List Tie) → ts ≡ [] → AreFirstTies ls 0 ts
ties_first ls ts e = record { same = ap length e; each = λ i t h. let k : slice_get [] i ≡ Some t = ap (λ z. slice_get z i) (sym e) ∙ h in cc }

get_last : {A : Type 0} (xs : List A) (i : ℕ) (x y : A) → slice_get (xs ++ x ∷ []) i ≡ Some y → (i ≢ length xs → slice_get xs i ≡ Some y) × (i ≡ length xs → x ≡ y)
get_last [] zero x y h = (λ n. absurd (n refl), λ e. the_one x y h)
get_last [] (suc i) x y h = cc
get_last (z ∷ xs) zero x y h = (λ n. h, λ e. absurd (omega (arith, e)))
get_last (z ∷ xs) (suc i) x y h = let r = get_last xs i x y h in (λ n. r.0 (λ e. n (omega (arith, e))), λ e. r.1 (omega (arith, e)))

length_more : {A : Type 0} (xs : List A) (x : A) → length (xs ++ x ∷ []) ≡ length xs + 1
length_more [] x = refl
length_more (y ∷ xs) x = omega (arith, length_more xs x)

pub ties_next : (ls : List Literal) (n : ℕ) (ts us : List Tie) (t : Tie) → AreFirstTies ls n ts → us ≡ ts ++ t ∷ [] → IsTie ls n t → AreFirstTies ls (n + 1) us
ties_next ls n ts us t a e h = record {
  same = let k = ap length e in omega (arith, k, length_more ts t, a.same);
  each = λ i u g.
      let k = get_last ts i t u (ap (λ z. slice_get z i) (sym e) ∙ g) in
      elim (cases_eq i (length ts)) [
        | inl j ↦ subst (IsTie ls i) (k.1 j) (subst (λ z. IsTie ls z t) (sym (j ∙ a.same)) h)
        | inr d ↦ a.each i u (k.0 d)
      ];
}

pub ties_all : (ls : List Literal) (n : ℕ) (ts : List Tie) → n ≤ length ls → length ls ≤ n → AreFirstTies ls n ts → AreTies ls ts
ties_all ls n ts p l a = record { same = omega (arith, p, l, a.same); each = a.each }
