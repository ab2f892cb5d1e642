-- A phrase behind a token of which nothing need be kept, and phrases behind a sign each.
use Rattle.std.proofs.Common.{◌≡◌, ℕ, true, false, ◌⊎◌, List, [], ◌∷◌, ◌++◌, map, Option, Some, None, Ok, Err, refl, ap}
use Rattle.opl_token.specs.declared.sign.Sign.{Sign}
use Rattle.opl_token.specs.declared.token.Kind.{Kind}
use Rattle.opl_tree.specs.Marks.{Part, sign as sign_part, Mark, token, joined, behind as behind_marks}
use Rattle.opl_grammar.specs.Input.{Input, Outcome, Parser, kind, next, and_then, ◌>>=◌, ◌>>◌, pure, one, take_found, is_sign, after_each}
use Rattle.opl_reader_laws.proofs.Phrases.{Shape, Law, Reads, one_law, pair, pair_law}
use Rattle.opl_reader_laws.proofs.Forms.{mapped, rule_law, law_as}
use Rattle.opl_reader_laws.proofs.Many.{many_law}
use Rattle.opl_reader_laws.proofs.Tokens.{sign_reads}

abbrev pub led_shape : {A : Type 0} → Part → (Option Kind → Type 0) → Shape A → Shape A
led_shape part first t = record {
  marks = λ a. token part ∷ t.marks a;
  Tag = t.Tag;
  tag = t.tag;
  fits = t.fits;
  ends = t.ends;
  closes = t.closes;
  begins = λ F. first;
}

led_is : {A : Type 0} (table : Option Kind → Option (Unit {0})) (q : Parser A) (i : Input) → (one table >> q) i ≡ mapped (λ (c : Unit {0} × A). c.1) (pair (one table) q) i
led_is {A} table q i = by_found (table (kind i)) where
  by_second : (x : Unit {0}) (o : Outcome A) → o ≡ and_then (and_then o (λ b. pure {A = Unit {0} × A} (x, b))) (λ c. pure c.1)
  by_second x (Ok c) = refl
  by_second x (Err e) = refl

  by_found : (o : Option (Unit {0})) → and_then (take_found o i) (λ x. q) ≡ and_then (and_then (take_found o i) (λ x. q >>= (λ b. pure {A = Unit {0} × A} (x, b)))) (λ c. pure c.1)
  by_found None = refl
  by_found (Some x) = by_second x (q (next i))

pub led_law : {A : Type 0} {n : ℕ} {q q' : Parser A} {t : Shape A} {table : Option Kind → Option (Unit {0})} {part : Part} {first : Option Kind → Type 0} → Reads table (λ u. part) first → Law n q q' t → Law n (one table >> q) (one table >> q') (led_shape part first t)
led_law {A} {n} {q} {q'} {t} {table} {part} {first} r Q = rule_law (pair_law (one_law r) Q (λ x k h. tt)) (led_shape part first t) (λ c. c.1) (record {
  made = λ a. record { of = (tt, a); is = refl };
  marks = λ c. refl;
  tags = λ a b h. ap (λ x. x.1) h;
  fits = Q.fit;
  ends = λ a k h. h;
  closing = Q.good.closing;
  closes = λ k h. h;
  begins = λ F k h. h;
}) (one table >> q) (one table >> q') (led_is table q) (led_is table q')

-- ---- phrases behind a sign each

abbrev pub each_shape : {A : Type 0} → Sign → Shape A → Shape (List A)
each_shape s t = record {
  marks = λ xs. behind_marks s (map t.marks xs);
  Tag = List t.Tag;
  tag = map t.tag;
  fits = λ xs. Unit {0};
  ends = λ x k. t.closes k × (is_sign s k ≡ false);
  closes = λ k. t.closes k × (is_sign s k ≡ false);
  begins = λ F k. (is_sign s k ≡ true) ⊎ F k;
}

behind_joined : {A : Type 0} (s : Sign) (marks : A → List Mark) (xs : List A) → behind_marks s (map marks xs) ≡ joined (map (λ x. token (sign_part s) ∷ marks x) xs)
behind_joined s marks [] = refl
behind_joined s marks (x ∷ xs) = ap (λ ms. token (sign_part s) ∷ (marks x ++ ms)) (behind_joined s marks xs)

-- where the sign comes, a phrase stops
pub each_law : {A : Type 0} {n : ℕ} {q q' : Parser A} {t : Shape A} (s : Sign) → Law n q q' t → ((k : Option Kind) → is_sign s k ≡ true → t.closes k) → Law n (after_each s q) (after_each s q') (each_shape s t)
each_law {A} {n} {q} {q'} {t} s Q meets = law_as (many_law (is_sign s) (led_law (sign_reads s) Q) (record { passes = λ F k h. h; meets = meets; written = λ a. record { first = sign_part s; is = refl } })) (each_shape s t) (record {
  made = λ xs. record { of = xs; is = refl };
  marks = behind_joined s t.marks;
  tags = λ a b h. h;
  fits = λ xs. tt;
  ends = λ a k h. h;
  closing = λ x k h. h;
  closes = λ k h. h;
  begins = λ F k h. h;
})
