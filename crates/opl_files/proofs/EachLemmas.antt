-- A stage for each of a list, as a loop comes to one after another.
use Rattle.std.proofs.Common.{◌≡◌, refl, sym, ap, ◌∙◌, subst, ℕ, ◌+◌, ◌<◌, ◌≤◌, List, [], ◌∷◌, ◌++◌, length, take, drop, get_or, Ok, Err, inl, inr, arith, add-one}
use Rattle.std.proofs.Math.Seq.{take-suc, drop-cons}
use Rattle.std.proofs.lemmas.List.{take_all, length-take-le, take-append-drop}
use Rattle.opl_files.specs.declared.refusal.Refusal.{Refusal}
use Rattle.opl_files.specs.declared.stop.Stop.{Stop}
use Rattle.opl_files.specs.declared.stop.Stop.TheVariants.{Refused, Spent, ReadFault, WriteFault, OutOfMemory}
use Rattle.opl_files.specs.Stage.{Stage, Each, Gives, GivesRead}

front_more : {A : Type 0} (xs : List A) (i : ℕ) (d : A) → i < length xs → take (i + 1) xs ≡ take i xs ++ get_or xs i d ∷ []
front_more xs i d h = rw (add-one, take-suc xs i d) refl

back_at : {A : Type 0} (xs : List A) (i : ℕ) (d : A) → i < length xs → drop i xs ≡ get_or xs i d ∷ drop (i + 1) xs
back_at xs i d h = rw (add-one, drop-cons xs i d) refl

parts_at : {A : Type 0} (xs : List A) (i : ℕ) (d : A) → i < length xs → take i xs ++ get_or xs i d ∷ drop (i + 1) xs ≡ xs
parts_at xs i d h = ap (λ ys. take i xs ++ ys) (sym (back_at xs i d h)) ∙ take-append-drop i xs

front_length : {A : Type 0} (xs : List A) (i n m : ℕ) → i < length xs → m ≡ n + i → m ≡ n + length (take i xs)
front_length xs i n m h e = e ∙ ap (λ k. n + k) (sym (length-take-le i xs (omega arith)))

module _ {A B : Type 0} (P : ℕ → A → Stage B) where
  pub each-none : (n : ℕ) → Each P n [] (Ok [])
  unfolding Each
  each-none n = refl

  last_one : (n : ℕ) (x : A) (ys : List B) (y : B) → ys ≡ [] → P n x (Ok y) → Each P n (x ∷ []) (Ok (ys ++ y ∷ []))
  unfolding Each
  last_one n x ys y none p = inl (y, p, inl ([], refl, ap (λ zs. Ok (zs ++ y ∷ [])) none))

  none_yet : (n : ℕ) (ys : List B) → Each P n [] (Ok ys) → ys ≡ []
  unfolding Each
  none_yet n ys e = cc

  -- one more value is given
  each_push : (n m : ℕ) (xs : List A) (x : A) (ys : List B) (y : B) → m ≡ n + length xs → Each P n xs (Ok ys) → P m x (Ok y) →
      Each P n (xs ++ x ∷ []) (Ok (ys ++ y ∷ []))
  unfolding Each
  each_push n m [] x ys y at given p = let here : m ≡ n = omega arith in last_one n x ys y (none_yet n ys given) (subst (λ k. P k x (Ok y)) here p)
  each_push n m (u ∷ us) x ys y at (inl (v, first, inl (vs, rest, is))) p =
      let whole : ys ≡ v ∷ vs = cc in
      inl (v, first, inl (vs ++ y ∷ [], each_push (n + 1) m us x vs y (omega arith) rest p, ap (λ zs. Ok (zs ++ y ∷ [])) whole))
  each_push n m (u ∷ us) x ys y at (inl (v, first, inr (e, rest, is))) p = absurd (cc)
  each_push n m (u ∷ us) x ys y at (inr (e, first, is)) p = absurd (cc)

  -- one more refuses
  each_stop : (n m : ℕ) (xs : List A) (x : A) (back : List A) (ys : List B) (e : Refusal) → m ≡ n + length xs → Each P n xs (Ok ys) → P m x (Err e) →
      Each P n (xs ++ x ∷ back) (Err e)
  unfolding Each
  each_stop n m [] x back ys e at given p = let here : m ≡ n = omega arith in inr (e, subst (λ k. P k x (Err e)) here p, refl)
  each_stop n m (u ∷ us) x back ys e at (inl (v, first, inl (vs, rest, is))) p =
      inl (v, first, inr (e, each_stop (n + 1) m us x back vs e (omega arith) rest p, refl))
  each_stop n m (u ∷ us) x back ys e at (inl (v, first, inr (f, rest, is))) p = absurd (cc)
  each_stop n m (u ∷ us) x back ys e at (inr (f, first, is)) p = absurd (cc)

  -- the loop goes on
  pub each-next : (n m : ℕ) (xs : List A) (i : ℕ) (d x : A) (ys : List B) (y : B) → i < length xs → x ≡ get_or xs i d → m ≡ n + i →
      Each P n (take i xs) (Ok ys) → P m x (Ok y) → Each P n (take (i + 1) xs) (Ok (ys ++ y ∷ []))
  each-next n m xs i d x ys y h at place given p =
      rw (front_more xs i d h, ← at) (each_push n m (take i xs) x ys y (front_length xs i n m h place) given p)

  stopped_at : (n m : ℕ) (xs : List A) (i : ℕ) (d x : A) (ys : List B) (e : Refusal) → i < length xs → x ≡ get_or xs i d → m ≡ n + i →
      Each P n (take i xs) (Ok ys) → P m x (Err e) → Each P n xs (Err e)
  stopped_at n m xs i d x ys e h at place given p =
      subst (λ zs. Each P n zs (Err e)) (ap (λ u. take i xs ++ u ∷ drop (i + 1) xs) at ∙ parts_at xs i d h)
      (each_stop n m (take i xs) x (drop (i + 1) xs) ys e (front_length xs i n m h place) given p)

  -- the loop ends at a refusal, or where memory is wanting
  pub each-stops : (n m : ℕ) (xs : List A) (i : ℕ) (d x : A) (ys : List B) (stop : Stop) → i < length xs → x ≡ get_or xs i d → m ≡ n + i →
      Each P n (take i xs) (Ok ys) → Gives (P m x) (Err stop) → Gives (Each P n xs) (Err stop)
  each-stops n m xs i d x ys (Refused e) h at place given p = stopped_at n m xs i d x ys e h at place given p
  each-stops n m xs i d x ys Spent h at place given p = p
  each-stops n m xs i d x ys ReadFault h at place given p = p
  each-stops n m xs i d x ys WriteFault h at place given p = p
  each-stops n m xs i d x ys OutOfMemory h at place given p = tt

  -- the same of a stage that reads
  pub each-stops-read : (n m : ℕ) (xs : List A) (i : ℕ) (d x : A) (ys : List B) (stop : Stop) → i < length xs → x ≡ get_or xs i d → m ≡ n + i →
      Each P n (take i xs) (Ok ys) → GivesRead (P m x) (Err stop) → GivesRead (Each P n xs) (Err stop)
  each-stops-read n m xs i d x ys (Refused e) h at place given p = stopped_at n m xs i d x ys e h at place given p
  each-stops-read n m xs i d x ys Spent h at place given p = p
  each-stops-read n m xs i d x ys ReadFault h at place given p = tt
  each-stops-read n m xs i d x ys WriteFault h at place given p = p
  each-stops-read n m xs i d x ys OutOfMemory h at place given p = tt

  -- the loop ends behind the last one
  pub each-ends : (n : ℕ) (xs : List A) (i : ℕ) (ys : List B) → length xs ≤ i → Each P n (take i xs) (Ok ys) → Each P n xs (Ok ys)
  each-ends n xs i ys h given = subst (λ zs. Each P n zs (Ok ys)) (take_all i xs h) given
