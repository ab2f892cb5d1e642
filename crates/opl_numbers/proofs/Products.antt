-- The measures of nodes of two numbers.
use Rattle.std.proofs.Common.{◌≡◌, ℕ, suc, ◌+◌, ◌-◌, ◌*◌, ◌^◌, min, max, true, false, ap, ◌∙◌, arith}
use Rattle.opl_expr.specs.declared.forms.Expr.TheVariants as E
use Rattle.opl_nodes.specs.declared.context.Context.{Context}
use Rattle.opl_nodes.specs.Pieces.{IsCapped, magnitude}
use Rattle.opl_numbers.specs.declared.measured.Number.{Number}
use Rattle.opl_numbers.specs.Numbers.{IsNumber, is_constant}
use Rattle.opl_numbers.proofs.Measures.{magnitude-Mul, magnitude-left, magnitude-right}

pub same-capped : (m n : ℕ) → m ≡ n → IsCapped m n
same-capped m n h = ap (λ n. min n (2 ^ 127)) h

capped-product : (s p q m : ℕ) → s ≡ min p (2 ^ 128 - 1) → p ≡ q → m ≡ q → min s (2 ^ 127) ≡ min m (2 ^ 127)
capped-product s p q m h i j = omega (arith, h, i, j)

capped-larger : (s t p q m : ℕ) → s ≡ max 1 t → t ≡ min p (2 ^ 128 - 1) → p ≡ q → m ≡ max 1 q → min s (2 ^ 127) ≡ min m (2 ^ 127)
capped-larger s t p q m h i j k = omega (arith, h, i, j, k)

products : (a b x y : ℕ) → a ≡ x → b ≡ y → a * b ≡ x * y
products a b x y h k = ap (λ a. a * b) h ∙ ap (λ b. x * b) k

pub size-left : (c : Context) (l r : Number) (s : ℕ) → s ≡ min (l.size * r.size) (2 ^ 128 - 1) → is_constant c l.expr ≡ true → IsNumber c l → IsNumber c r → IsCapped s (magnitude c (E.Mul l.expr r.expr))
size-left c l r s e h j k =
    capped-product s (l.size * r.size) (magnitude c l.expr * magnitude c r.expr) (magnitude c (E.Mul l.expr r.expr)) e (products l.size r.size (magnitude c l.expr) (magnitude c r.expr) j.size k.size) (magnitude-left c l.expr r.expr h)

pub size-right : (c : Context) (l r : Number) (s : ℕ) → s ≡ min (l.size * r.size) (2 ^ 128 - 1) → is_constant c l.expr ≡ false → is_constant c r.expr ≡ true → IsNumber c l → IsNumber c r → IsCapped s (magnitude c (E.Mul l.expr r.expr))
size-right c l r s e g h j k =
    capped-product s (l.size * r.size) (magnitude c l.expr * magnitude c r.expr) (magnitude c (E.Mul l.expr r.expr)) e (products l.size r.size (magnitude c l.expr) (magnitude c r.expr) j.size k.size) (magnitude-right c l.expr r.expr g h)

pub size-other : (c : Context) (l r : Number) (s t : ℕ) → s ≡ max 1 t → t ≡ min (l.size * r.size) (2 ^ 128 - 1) → is_constant c l.expr ≡ false → is_constant c r.expr ≡ false → IsNumber c l → IsNumber c r →
    IsCapped s (magnitude c (E.Mul l.expr r.expr))
size-other c l r s t e f g h j k =
    capped-larger s t (l.size * r.size) (magnitude c l.expr * magnitude c r.expr) (magnitude c (E.Mul l.expr r.expr)) e f (products l.size r.size (magnitude c l.expr) (magnitude c r.expr) j.size k.size) (magnitude-Mul c l.expr r.expr g h)

pub size-first : (s x a m : ℕ) → s ≡ max 1 x → x ≡ a → m ≡ max 1 a → IsCapped s m
size-first s x a m h i j = same-capped s m (first s x a m h i j)
  where
    first : (s x a m : ℕ) → s ≡ max 1 x → x ≡ a → m ≡ max 1 a → s ≡ m
    first s x a m h i j = omega (arith, h, i, j)

pub depth-two : (d x y a b m : ℕ) → d ≡ max x y → x ≡ a → y ≡ b → m ≡ suc (max a b) → d + 1 ≡ m
depth-two d x y a b m h i j k = omega (arith, h, i, j, k)

pub nodes-two : (x y a b m : ℕ) → x ≡ a → y ≡ b → m ≡ suc (a + b) → x + y + 1 ≡ m
nodes-two x y a b m h i j = omega (arith, h, i, j)

pub one-more : (x a m : ℕ) → x ≡ a → m ≡ suc a → x + 1 ≡ m
one-more x a m h i = omega (arith, h, i)
