-- Levels of nesting: what opens no level too many, and the first token that does.
use Rattle.std.proofs.Common.{◌≡◌, ℕ, zero, suc, ◌<◌, ◌≤◌, ◌⊎◌, inl, inr, [], ◌∷◌, ◌++◌, refl, sym, ap, subst, arith}
use Rattle.opl_grammar.specs.Input.{Input, next, place as place_at}
use Rattle.opl_tree.specs.Marks.{place, token, unbraced, opens, Marks, raised}
use Rattle.opl_tree.specs.Depth.{depth_of}
use Rattle.opl_reader_laws.proofs.Takes.{Takes, Begins}

-- they open no level beyond the n-th
abbrev pub Fits : ℕ → Marks → Type 0
Fits n [] = Unit {0}
Fits n (place at ∷ ms) = Fits n ms
Fits n (token p ∷ ms) = Fits n ms
Fits n (unbraced ∷ ms) = Fits n ms
Fits n (opens k ∷ ms) = (k ≤ n) × Fits n ms

-- the token at this place is the first that opens a level beyond the n-th
abbrev pub Beyond : ℕ → Marks → Input → ℕ → Type 0
Beyond n [] i at = ⊥
Beyond n (place a ∷ ms) i at = Beyond n ms i at
Beyond n (token p ∷ ms) i at = Beyond n ms (next i) at
Beyond n (unbraced ∷ ms) i at = Beyond n ms i at
Beyond n (opens k ∷ ms) i at = ((n < k) × (at ≡ place_at i)) ⊎ ((k ≤ n) × Beyond n ms i at)

-- ---- marks in two parts

pub fits_split : (n : ℕ) (ms ns : Marks) → Fits n (ms ++ ns) → Fits n ms × Fits n ns
fits_split n [] ns f = (tt, f)
fits_split n (place at ∷ ms) ns f = fits_split n ms ns f
fits_split n (token p ∷ ms) ns f = fits_split n ms ns f
fits_split n (unbraced ∷ ms) ns f = fits_split n ms ns f
fits_split n (opens k ∷ ms) ns f = let s = fits_split n ms ns f.1 in ((f.0, s.0), s.1)

pub fits_join : (n : ℕ) (ms ns : Marks) → Fits n ms → Fits n ns → Fits n (ms ++ ns)
fits_join n [] ns f g = g
fits_join n (place at ∷ ms) ns f g = fits_join n ms ns f g
fits_join n (token p ∷ ms) ns f g = fits_join n ms ns f g
fits_join n (unbraced ∷ ms) ns f g = fits_join n ms ns f g
fits_join n (opens k ∷ ms) ns f g = (f.0, fits_join n ms ns f.1 g)

-- the first token too many stands in the first part, or the first part fits and it stands in the second
pub beyond_split : (n : ℕ) (ms ns : Marks) (i j : Input) (at : ℕ) → Begins ms i j → Beyond n (ms ++ ns) i at → Beyond n ms i at ⊎ (Fits n ms × Beyond n ns j at)
beyond_split n [] ns i j at h g = inr (tt, subst (λ x. Beyond n ns x at) h g)
beyond_split n (place a ∷ ms) ns i j at h g = beyond_split n ms ns i j at h g
beyond_split n (token p ∷ ms) ns i j at h g = beyond_split n ms ns (next i) j at h.1 g
beyond_split n (unbraced ∷ ms) ns i j at h g = beyond_split n ms ns i j at h.1 g
beyond_split n (opens k ∷ ms) ns i j at h (inl g) = inl (inl g)
beyond_split n (opens k ∷ ms) ns i j at h (inr g) = by_rest (beyond_split n ms ns i j at h g.1) where
  by_rest : Beyond n ms i at ⊎ (Fits n ms × Beyond n ns j at) → Beyond n (opens k ∷ ms) i at ⊎ (Fits n (opens k ∷ ms) × Beyond n ns j at)
  by_rest (inl x) = inl (inr (g.0, x))
  by_rest (inr x) = inr ((g.0, x.0), x.1)

-- ---- one level deeper

pub fits_raised : (n : ℕ) (ms : Marks) → Fits n ms → Fits (suc n) (raised ms)
fits_raised n [] f = tt
fits_raised n (place at ∷ ms) f = fits_raised n ms f
fits_raised n (token p ∷ ms) f = fits_raised n ms f
fits_raised n (unbraced ∷ ms) f = fits_raised n ms f
fits_raised n (opens k ∷ ms) f = let p = f.0 in (omega arith, fits_raised n ms f.1)

pub fits_lowered : (n : ℕ) (ms : Marks) → Fits (suc n) (raised ms) → Fits n ms
fits_lowered n [] f = tt
fits_lowered n (place at ∷ ms) f = fits_lowered n ms f
fits_lowered n (token p ∷ ms) f = fits_lowered n ms f
fits_lowered n (unbraced ∷ ms) f = fits_lowered n ms f
fits_lowered n (opens k ∷ ms) f = let p = f.0 in (omega arith, fits_lowered n ms f.1)

pub beyond_lowered : (n : ℕ) (ms : Marks) (i : Input) (at : ℕ) → Beyond (suc n) (raised ms) i at → Beyond n ms i at
beyond_lowered n [] i at g = g
beyond_lowered n (place a ∷ ms) i at g = beyond_lowered n ms i at g
beyond_lowered n (token p ∷ ms) i at g = beyond_lowered n ms (next i) at g
beyond_lowered n (unbraced ∷ ms) i at g = beyond_lowered n ms i at g
beyond_lowered n (opens k ∷ ms) i at (inl g) = let p = g.0 in inl (omega arith, g.1)
beyond_lowered n (opens k ∷ ms) i at (inr g) = let p = g.0 in inr (omega arith, beyond_lowered n ms i at g.1)

pub takes_raised : (ms : Marks) (i j : Input) → Takes ms i j → Takes (raised ms) i j
takes_raised [] i j t = t
takes_raised (place at ∷ ms) i j t = (t.0, takes_raised ms i j t.1)
takes_raised (token p ∷ ms) i j t = (t.0, takes_raised ms (next i) j t.1)
takes_raised (unbraced ∷ ms) i j t = (t.0, takes_raised ms i j t.1)
takes_raised (opens k ∷ ms) i j t = takes_raised ms i j t

pub takes_lowered : (ms : Marks) (i j : Input) → Takes (raised ms) i j → Takes ms i j
takes_lowered [] i j t = t
takes_lowered (place at ∷ ms) i j t = (t.0, takes_lowered ms i j t.1)
takes_lowered (token p ∷ ms) i j t = (t.0, takes_lowered ms (next i) j t.1)
takes_lowered (unbraced ∷ ms) i j t = (t.0, takes_lowered ms i j t.1)
takes_lowered (opens k ∷ ms) i j t = takes_lowered ms i j t

pub begins_raised : (ms : Marks) (i j : Input) → Begins ms i j → Begins (raised ms) i j
begins_raised [] i j t = t
begins_raised (place at ∷ ms) i j t = begins_raised ms i j t
begins_raised (token p ∷ ms) i j t = (t.0, begins_raised ms (next i) j t.1)
begins_raised (unbraced ∷ ms) i j t = (t.0, begins_raised ms i j t.1)
begins_raised (opens k ∷ ms) i j t = begins_raised ms i j t

pub begins_lowered : (ms : Marks) (i j : Input) → Begins (raised ms) i j → Begins ms i j
begins_lowered [] i j t = t
begins_lowered (place at ∷ ms) i j t = begins_lowered ms i j t
begins_lowered (token p ∷ ms) i j t = (t.0, begins_lowered ms (next i) j t.1)
begins_lowered (unbraced ∷ ms) i j t = (t.0, begins_lowered ms i j t.1)
begins_lowered (opens k ∷ ms) i j t = begins_lowered ms i j t

-- ---- the depth

pub fits_of : (n : ℕ) (ms : Marks) → depth_of ms ≤ n → Fits n ms
fits_of n [] h = tt
fits_of n (place at ∷ ms) h = fits_of n ms h
fits_of n (token p ∷ ms) h = fits_of n ms h
fits_of n (unbraced ∷ ms) h = fits_of n ms h
fits_of n (opens k ∷ ms) h = (omega arith, fits_of n ms (omega arith))

pub depth_fits : (n : ℕ) (ms : Marks) → Fits n ms → depth_of ms ≤ n
depth_fits n [] f = omega arith
depth_fits n (place at ∷ ms) f = depth_fits n ms f
depth_fits n (token p ∷ ms) f = depth_fits n ms f
depth_fits n (unbraced ∷ ms) f = depth_fits n ms f
depth_fits n (opens k ∷ ms) f = let p = f.0 in let e = depth_fits n ms f.1 in omega arith

-- either all fits, or some token is the first too many
le_or_lt : (k n : ℕ) → (k ≤ n) ⊎ (n < k)
le_or_lt zero n = inl (omega arith)
le_or_lt (suc k) zero = inr (omega arith)
le_or_lt (suc k) (suc n) = by_less (le_or_lt k n) where
  by_less : (k ≤ n) ⊎ (n < k) → (suc k ≤ suc n) ⊎ (suc n < suc k)
  by_less (inl h) = inl (omega arith)
  by_less (inr h) = inr (omega arith)

pub fits_or_beyond : (n : ℕ) (ms : Marks) (i : Input) → Fits n ms ⊎ ((at : ℕ) × Beyond n ms i at)
fits_or_beyond n [] i = inl tt
fits_or_beyond n (place at ∷ ms) i = fits_or_beyond n ms i
fits_or_beyond n (token p ∷ ms) i = fits_or_beyond n ms (next i)
fits_or_beyond n (unbraced ∷ ms) i = fits_or_beyond n ms i
fits_or_beyond n (opens k ∷ ms) i = by_level (fits_or_beyond n ms i) (le_or_lt k n) where
  by_rest : k ≤ n → Fits n ms ⊎ ((at : ℕ) × Beyond n ms i at) → Fits n (opens k ∷ ms) ⊎ ((at : ℕ) × Beyond n (opens k ∷ ms) i at)
  by_rest h (inl f) = inl (h, f)
  by_rest h (inr x) = inr (x.0, inr (h, x.1))

  by_level : Fits n ms ⊎ ((at : ℕ) × Beyond n ms i at) → (k ≤ n) ⊎ (n < k) → Fits n (opens k ∷ ms) ⊎ ((at : ℕ) × Beyond n (opens k ∷ ms) i at)
  by_level r (inl h) = by_rest h r
  by_level r (inr h) = inr (place_at i, inl (h, refl))

-- ---- the first token too many, and the marks before it

-- behind marks that fit, it is the next token
pub beyond_at : (n k : ℕ) (ms ns : Marks) (i j : Input) → Fits n ms → n < k → Begins ms i j → Beyond n (ms ++ opens k ∷ ns) i (place_at j)
beyond_at n k [] ns i j f h b = inl (h, ap place_at (sym b))
beyond_at n k (place at ∷ ms) ns i j f h b = beyond_at n k ms ns i j f h b
beyond_at n k (token p ∷ ms) ns i j f h b = beyond_at n k ms ns (next i) j f h b.1
beyond_at n k (unbraced ∷ ms) ns i j f h b = beyond_at n k ms ns i j f h b.1
beyond_at n k (opens l ∷ ms) ns i j f h b = inr (f.0, beyond_at n k ms ns i j f.1 h b)

-- where it stands in the marks
pub record Found (n : ℕ) (ms : Marks) (i : Input) (at : ℕ) : Type 0 where
  pub before : Marks
  pub number : ℕ
  pub behind : Marks
  pub mid : Input
  pub is : ms ≡ before ++ opens number ∷ behind
  pub fits : Fits n before
  pub too_many : n < number
  pub begins : Begins before i mid
  pub place : at ≡ place_at mid

pub beyond_found : (n : ℕ) (ms : Marks) (i j : Input) (at : ℕ) → Begins ms i j → Beyond n ms i at → Found n ms i at
beyond_found n [] i j at b g = absurd g
beyond_found n (place a ∷ ms) i j at b g = let f = beyond_found n ms i j at b g in
    record { before = place a ∷ f.before; number = f.number; behind = f.behind; mid = f.mid; is = ap (λ xs. place a ∷ xs) f.is; fits = f.fits; too_many = f.too_many; begins = f.begins; place = f.place }
beyond_found n (token p ∷ ms) i j at b g = let f = beyond_found n ms (next i) j at b.1 g in
    record { before = token p ∷ f.before; number = f.number; behind = f.behind; mid = f.mid; is = ap (λ xs. token p ∷ xs) f.is; fits = f.fits; too_many = f.too_many; begins = (b.0, f.begins); place = f.place }
beyond_found n (unbraced ∷ ms) i j at b g = let f = beyond_found n ms i j at b.1 g in
    record { before = unbraced ∷ f.before; number = f.number; behind = f.behind; mid = f.mid; is = ap (λ xs. unbraced ∷ xs) f.is; fits = f.fits; too_many = f.too_many; begins = (b.0, f.begins); place = f.place }
beyond_found n (opens k ∷ ms) i j at b (inl g) = record { before = []; number = k; behind = ms; mid = i; is = refl; fits = tt; too_many = g.0; begins = refl; place = g.1 }
beyond_found n (opens k ∷ ms) i j at b (inr g) = let f = beyond_found n ms i j at b g.1 in
    record { before = opens k ∷ f.before; number = f.number; behind = f.behind; mid = f.mid; is = ap (λ xs. opens k ∷ xs) f.is; fits = (g.0, f.fits); too_many = f.too_many; begins = f.begins; place = f.place }
