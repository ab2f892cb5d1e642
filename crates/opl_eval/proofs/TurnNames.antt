-- Where the turns stand that have a name.
use Rattle.std.proofs.Common.{◌≡◌, ℕ, zero, suc, Bool, true, false, ◌||◌, cond, Bor, List, [], ◌∷◌, ◌++◌, length, drop, min, take, Option, None, Some, refl, ap, ◌∙◌, arith}
use Rattle.std.specs.HashMap.{HashMap, get_by}
use Rattle.std.specs.List.{list_any}
use Rattle.std.specs.Str.{bytes_eq}
use Rattle.std.proofs.lemmas.List.{at_drop_all}
use Rattle.opl_term.specs.declared.term.Pattern.{Pattern}
use Rattle.opl_term.specs.declared.term.Pattern.TheVariants.{Single, Parts}
use Rattle.opl_value.specs.declared.value.Value.{Value}
use Rattle.opl_eval.specs.declared.turns.Turn.{Turn}
use Rattle.opl_eval.specs.Evaluation.{bound, bound_parts, parameter_or, parts}
use Rattle.opl_eval.specs.TurnNames.{calls, names_of, or_first}
use Rattle.opl_eval.specs.Turns.{in_turns}

-- ---- truths

or-left : (a b : Bool) → (a || b) ≡ false → a ≡ false
or-left true b h = h
or-left false b h = refl

or-right : (a b : Bool) → (a || b) ≡ false → b ≡ false
or-right true b h = cc
or-right false b h = h

or-neither : (a b : Bool) → a ≡ false → b ≡ false → (a || b) ≡ false
or-neither a b h k = ap (λ x. x || b) h ∙ k

pub cond-one : {A : Type 0} (b : Bool) (x y : A) → cond b x y ≡ cond (b || false) x y
cond-one true x y = refl
cond-one false x y = refl

cond-same : {A : Type 0} (b : Bool) (x : A) → cond b x x ≡ x
cond-same true x = refl
cond-same false x = refl

pub cond-or : {A : Type 0} (a b : Bool) (x y : A) → cond b x (cond a x y) ≡ cond (a || b) x y
cond-or true b x y = cond-same b x
cond-or false b x y = refl

-- ---- whether one of a list is, from a place on

module _ {A : Type 0} (f : A → Bool) where
  any-none : (e : ℕ) → list_any f (drop e []) ≡ false
  any-none zero = refl
  any-none (suc e) = refl

  pub any-before : (e : ℕ) (us : List A) (t : A) → list_any f (drop e (us ++ t ∷ [])) ≡ false → list_any f (drop e us) ≡ false
  any-before e [] t h = any-none e
  any-before zero (u ∷ us) t h = or-neither (f u) (list_any f us) (or-left (f u) (list_any f (us ++ t ∷ [])) h) (any-before zero us t (or-right (f u) (list_any f (us ++ t ∷ [])) h))
  any-before (suc e) (u ∷ us) t h = any-before e us t h

  pub any-behind : (e : ℕ) (us : List A) (t : A) → list_any f (drop e us) ≡ false → f t ≡ false → list_any f (drop e (us ++ t ∷ [])) ≡ false
  any-behind zero [] t h k = or-neither (f t) false k refl
  any-behind (suc e) [] t h k = any-none e
  any-behind zero (u ∷ us) t h k = or-neither (f u) (list_any f (us ++ t ∷ [])) (or-left (f u) (list_any f us) h) (any-behind zero us t (or-right (f u) (list_any f us) h) k)
  any-behind (suc e) (u ∷ us) t h k = any-behind e us t h k

-- ---- what a turn without the name does to it: nothing

unnamed-parts : (name : List ℕ) (ns : List (List ℕ)) (vs : List Value) (before : Option Value) → list_any (bytes_eq name) ns ≡ false → parameter_or before name (bound_parts ns vs) ≡ before
unnamed-parts name [] [] before h = refl
unnamed-parts name [] (v ∷ vs) before h = refl
unnamed-parts name (n ∷ ns) [] before h = refl
unnamed-parts name (n ∷ ns) (v ∷ vs) before h =
    ap (λ b. parameter_or (cond b (Some v) before) name (bound_parts ns vs)) (or-left (bytes_eq name n) (list_any (bytes_eq name) ns) h)
    ∙ unnamed-parts name ns vs before (or-right (bytes_eq name n) (list_any (bytes_eq name) ns) h)

unnamed : (name : List ℕ) (p : Pattern) (v : Value) (before : Option Value) → list_any (bytes_eq name) (names_of p) ≡ false → parameter_or before name (bound p v) ≡ before
unnamed name (Single n) v before h = ap (λ b. cond b (Some v) before) (or-left (bytes_eq name n) false h)
unnamed name (Parts ns) v before h = unnamed-parts name ns (parts v) before h

pub none-called : (name : List ℕ) (e : ℕ) (ts : List Turn) (before : Option Value) → list_any (calls name) (drop e ts) ≡ false → in_turns before name ts ≡ in_turns before name (take e ts)
none-called name zero [] before h = refl
none-called name zero (t ∷ ts) before h =
    ap (λ b. in_turns b name ts) (unnamed name t.course.pattern.now t.element before (or-left (calls name t) (list_any (calls name) ts) h))
    ∙ none-called name zero ts before (or-right (calls name t) (list_any (calls name) ts) h)
none-called name (suc e) [] before h = refl
none-called name (suc e) (t ∷ ts) before h = none-called name e ts (parameter_or before name (bound t.course.pattern.now t.element)) h

-- ---- where to look for a name

least-taken : (end n : ℕ) (ts : List Turn) → n ≡ min end (length ts) → take end ts ≡ take n ts
least-taken zero n ts m = let z : zero ≡ n = omega arith in ap (λ k. take k ts) z
least-taken (suc e) n [] m = let z : zero ≡ n = omega arith in ap (λ k. take k []) z
least-taken (suc e) n (t ∷ ts) m =
    let s : suc (min e (length ts)) ≡ n = omega arith in
    ap (λ l. t ∷ l) (least-taken e (min e (length ts)) ts refl) ∙ ap (λ k. take k (t ∷ ts)) s

pub end-known : (name : List ℕ) (o : Option ℕ) (end n : ℕ) (ts : List Turn) → Some end ≡ o → list_any (calls name) (drop (or_first o) ts) ≡ false → n ≡ min end (length ts) →
    (before : Option Value) → in_turns before name ts ≡ in_turns before name (take n ts)
end-known name o end n ts e h m before =
    none-called name end ts before (ap (λ p. list_any (calls name) (drop (or_first p) ts)) e ∙ h) ∙ ap (in_turns before name) (least-taken end n ts m)

pub end-unknown : (name : List ℕ) (o : Option ℕ) (ts : List Turn) → None ≡ o → list_any (calls name) (drop (or_first o) ts) ≡ false → (before : Option Value) → in_turns before name ts ≡ before
end-unknown name o ts e h before = none-called name 0 ts before (ap (λ p. list_any (calls name) (drop (or_first p) ts)) e ∙ h)

-- ---- one more turn

added-by : (name : List ℕ) (b : Bool) (o : Option ℕ) (us new : List Turn) (t : Turn) → calls name t ≡ b → list_any (calls name) (drop (or_first o) us) ≡ false → new ≡ us ++ t ∷ [] →
    list_any (calls name) (drop (or_first (cond b (Some (length new)) o)) new) ≡ false
added-by name true o us new t c h k = at_drop_all (list_any (calls name)) new (length new) (omega arith)
added-by name false o us new t c h k = ap (λ l. list_any (calls name) (drop (or_first o) l)) k ∙ any-behind (calls name) (or_first o) us t h c

pub ends-kept : {S : Type 0} (m n : HashMap (Bor (List ℕ)) ℕ S) (us new : List Turn) (t : Turn) (name : List ℕ) →
    list_any (calls name) (drop (or_first (get_by (λ k. bytes_eq name k.now) m)) us) ≡ false →
    get_by (λ k. bytes_eq name k.now) n ≡ cond (calls name t) (Some (length new)) (get_by (λ k. bytes_eq name k.now) m) →
    new ≡ us ++ t ∷ [] → list_any (calls name) (drop (or_first (get_by (λ k. bytes_eq name k.now) n)) new) ≡ false
ends-kept m n us new t name h a k =
    ap (λ o. list_any (calls name) (drop (or_first o) new)) a ∙ added-by name (calls name t) (get_by (λ k. bytes_eq name k.now) m) us new t refl h k
