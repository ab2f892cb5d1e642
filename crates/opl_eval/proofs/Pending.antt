-- What is still to be found, turn by turn.
use Rattle.std.proofs.Common.{◌≡◌, ℕ, ◌+◌, ◌<◌, length, get_or, take, zero, suc, Bool, Bor, cond, List, [], ◌∷◌, ◌++◌, Option, None, Some, Ok, Err, refl, ap, sym, ◌∙◌, arith}
use Rattle.std.specs.Str.{bytes_eq}
use Rattle.std.proofs.lemmas.List.{append-nil}
use Rattle.opl_term.specs.declared.term.Pattern.{Pattern}
use Rattle.opl_value.specs.declared.value.Value.{Value}
use Rattle.opl_eval.specs.declared.elements.Elements.{Elements}
use Rattle.opl_eval.specs.declared.turns.Ahead.TheVariants as ahead
use Rattle.opl_eval.specs.declared.turns.Course.{Course}
use Rattle.opl_eval.specs.declared.turns.Turn.{Turn}
use Rattle.opl_eval.specs.Evaluation.{Environment, Found, Parameter, bound, parameter_or, with_parameters}
use Rattle.opl_eval.specs.Turns.{Inner, both, chosen, in_turns, left, left_of, pending, still, turns, under}
use Rattle.opl_eval.proofs.Choices.{joined, none-first}

pub none-behind : {A : Type 0} (r : Found (List A)) → both r (Ok []) ≡ r
none-behind (Ok xs) = ap (λ l. Ok l) (append-nil xs)
none-behind (Err e) = refl

-- ---- one more turn

pub under-last : (env : Environment) (ts : List Turn) (t : Turn) → under env (ts ++ t ∷ []) ≡ with_parameters (bound t.course.pattern.now t.element) (under env ts)
under-last env [] t = refl
under-last env (u ∷ us) t = under-last (with_parameters (bound u.course.pattern.now u.element) env) us t

pub still-last : (inner : Inner) (env : Environment) (after : Found (List Value)) (ts : List Turn) (t : Turn) → still inner env after (ts ++ t ∷ []) ≡ both (left_of inner t.course (under env ts)) (still inner env after ts)
still-last inner env after [] t = refl
still-last inner env after (u ∷ us) t = still-last inner (with_parameters (bound u.course.pattern.now u.element) env) (both (left_of inner u.course env) after) us t

-- no element is left
pub turn-none : (inner : Inner) (env : Environment) (c : Course) (ts : List Turn) → left c.rest ≡ [] →
    both (left_of inner c (under env ts)) (still inner env (Ok []) ts) ≡ pending inner env ahead.Back ts
turn-none inner env c ts h = ap (λ l. both (turns (λ behind v. chosen c.is_ordered c.others.now (cond c.is_ordered behind (left c.all)) (inner c.later) (with_parameters (bound c.pattern.now v) (under env ts))) l) (still inner env (Ok []) ts)) h

-- an element is chosen
pub turn-made : (inner : Inner) (env : Environment) (is_ordered : Bool) (p : Bor Pattern) (ps : Bor (List Pattern)) (all rest behind es : Elements) (later : ℕ) (v : Value) (old new : List Turn) →
    left rest ≡ v ∷ left behind → left es ≡ cond is_ordered (left behind) (left all) →
    new ≡ old ++ record { element = v; course = record { is_ordered = is_ordered; pattern = p; others = ps; all = all; rest = behind; later = later } } ∷ [] →
    both (left_of inner (record { is_ordered = is_ordered; pattern = p; others = ps; all = all; rest = rest; later = later }) (under env old)) (still inner env (Ok []) old)
    ≡ pending inner env (ahead.Patterns (record { is_ordered = is_ordered; patterns = ps; elements = es; later = later })) new
turn-made inner env is_ordered p ps all rest behind es later v old new h n k =
    let t : Turn = record { element = v; course = record { is_ordered = is_ordered; pattern = p; others = ps; all = all; rest = behind; later = later } } in
    let f : List Value → Value → Found (List Value) = λ after w. chosen is_ordered ps.now (cond is_ordered after (left all)) (inner later) (with_parameters (bound p.now w) (under env old)) in
    ap (λ l. both (turns f l) (still inner env (Ok []) old)) h
    ∙ sym (joined (f (left behind) v) (turns f (left behind)) (still inner env (Ok []) old))
    ∙ (λ i. both (chosen is_ordered ps.now (sym n i) (inner later) (sym (under-last env old t) i)) (sym (still-last inner env (Ok []) old t) i))
    ∙ ap (λ us. pending inner env (ahead.Patterns (record { is_ordered = is_ordered; patterns = ps; elements = es; later = later })) us) (sym k)

-- patterns are given their elements
pub entered : (inner : Inner) (env : Environment) (is_ordered : Bool) (all p : Bor (List Pattern)) (first : Bor Pattern) (es rest : Elements) (later : ℕ) (ts : List Turn) → all.now ≡ first.now ∷ p.now → left rest ≡ left es →
    pending inner env (ahead.Patterns (record { is_ordered = is_ordered; patterns = all; elements = es; later = later })) ts
    ≡ both (left_of inner (record { is_ordered = is_ordered; pattern = first; others = p; all = es; rest = rest; later = later }) (under env ts)) (still inner env (Ok []) ts)
entered inner env is_ordered all p first es rest later ts h n =
    ap (λ l. both (chosen is_ordered l (left es) (inner later) (under env ts)) (still inner env (Ok []) ts)) h
    ∙ ap (λ l. both (turns (λ behind v. chosen is_ordered p.now (cond is_ordered behind (left es)) (inner later) (with_parameters (bound first.now v) (under env ts))) l) (still inner env (Ok []) ts)) (sym n)

pub entered-none : (inner : Inner) (env : Environment) (is_ordered : Bool) (all : Bor (List Pattern)) (es : Elements) (later : ℕ) (ts : List Turn) → all.now ≡ [] →
    pending inner env (ahead.Patterns (record { is_ordered = is_ordered; patterns = all; elements = es; later = later })) ts ≡ pending inner env (ahead.Groups later) ts
entered-none inner env is_ordered all es later ts h = ap (λ l. both (chosen is_ordered l (left es) (inner later) (under env ts)) (still inner env (Ok []) ts)) h

-- the latest turn is gone back to
pub back-to : (inner : Inner) (env : Environment) (old rest : List Turn) (t : Turn) → old ≡ rest ++ t ∷ [] →
    pending inner env ahead.Back old ≡ both (left_of inner t.course (under env rest)) (still inner env (Ok []) rest)
back-to inner env old rest t h =
    none-first (still inner env (Ok []) old) ∙ ap (still inner env (Ok [])) h ∙ still-last inner env (Ok []) rest t

-- ---- names

pub parameter_or-append : (before : Option Value) (name : List ℕ) (ps qs : List Parameter) → parameter_or before name (ps ++ qs) ≡ parameter_or (parameter_or before name ps) name qs
parameter_or-append before name [] qs = refl
parameter_or-append before name (p ∷ ps) qs = parameter_or-append (cond (bytes_eq name p.name) (Some p.value) before) name ps qs

pub under-value : (env : Environment) (name : List ℕ) (ts : List Turn) → parameter_or None name (under env ts).parameters ≡ in_turns (parameter_or None name env.parameters) name ts
under-value env name [] = refl
under-value env name (t ∷ ts) =
    under-value (with_parameters (bound t.course.pattern.now t.element) env) name ts
    ∙ ap (λ b. in_turns b name ts) (parameter_or-append None name env.parameters (bound t.course.pattern.now t.element))

pub in_turns-last : (before : Option Value) (name : List ℕ) (ts : List Turn) (t : Turn) → in_turns before name (ts ++ t ∷ []) ≡ parameter_or (in_turns before name ts) name (bound t.course.pattern.now t.element)
in_turns-last before name [] t = refl
in_turns-last before name (u ∷ us) t = in_turns-last (parameter_or before name (bound u.course.pattern.now u.element)) name us t

after-next : (i : ℕ) → suc i + 1 ≡ suc (i + 1)
after-next i = omega arith

pub take-more : {A : Type 0} (xs : List A) (i : ℕ) (x : A) → i < length xs → x ≡ get_or xs i x → take (i + 1) xs ≡ take i xs ++ x ∷ []
take-more [] i x l e = absurd (omega arith)
take-more (y ∷ ys) zero x l e = ap (λ z. z ∷ []) (sym e)
take-more (y ∷ ys) (suc i) x l e = ap (λ n. take n (y ∷ ys)) (after-next i) ∙ ap (λ l. y ∷ l) (take-more ys i x (omega arith) e)

pub under-items : (env : Environment) (ts : List Turn) → (under env ts).items ≡ env.items
under-items env [] = refl
under-items env (t ∷ ts) = under-items (with_parameters (bound t.course.pattern.now t.element) env) ts

pub under-position : (env : Environment) (ts : List Turn) → (under env ts).position ≡ env.position
under-position env [] = refl
under-position env (t ∷ ts) = under-position (with_parameters (bound t.course.pattern.now t.element) env) ts

-- a turn that gives no value to a name, and one that does
pub turn-passed : (name : List ℕ) (ts : List Turn) (i : ℕ) (t : Turn) → ((before : Option Value) → in_turns before name ts ≡ in_turns before name (take (i + 1) ts)) → i < length ts → t ≡ get_or ts i t →
    ((before : Option Value) → parameter_or before name (bound t.course.pattern.now t.element) ≡ before) → (before : Option Value) → in_turns before name ts ≡ in_turns before name (take i ts)
turn-passed name ts i t h l e n before =
    h before ∙ ap (in_turns before name) (take-more ts i t l e) ∙ in_turns-last before name (take i ts) t ∙ n (in_turns before name (take i ts))

pub turn-found : (name : List ℕ) (ts : List Turn) (i : ℕ) (t : Turn) (v : Value) → ((before : Option Value) → in_turns before name ts ≡ in_turns before name (take (i + 1) ts)) → i < length ts → t ≡ get_or ts i t →
    ((before : Option Value) → parameter_or before name (bound t.course.pattern.now t.element) ≡ Some v) → (before : Option Value) → in_turns before name ts ≡ Some v
turn-found name ts i t v h l e n before =
    h before ∙ ap (in_turns before name) (take-more ts i t l e) ∙ in_turns-last before name (take i ts) t ∙ n (in_turns before name (take i ts))
