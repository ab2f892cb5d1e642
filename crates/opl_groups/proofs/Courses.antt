-- What is still to be met, turn by turn.
use Rattle.std.proofs.Common.{◌≡◌, ℕ, Bool, Bor, cond, List, [], ◌∷◌, ◌++◌, refl, ap, sym, ◌∙◌}
use Rattle.opl_term.specs.declared.term.Pattern.{Pattern}
use Rattle.opl_value.specs.declared.value.Value.{Value}
use Rattle.opl_eval.specs.Evaluation.{Environment, bound, with_parameters}
use Rattle.opl_eval.specs.declared.elements.Elements.{Elements}
use Rattle.opl_groups.specs.declared.course.Ahead.TheVariants as ahead
use Rattle.opl_eval.specs.declared.turns.Course.{Course}
use Rattle.opl_eval.specs.declared.turns.Turn.{Turn}
use Rattle.opl_eval.specs.Turns.{left, under}
use Rattle.opl_groups.specs.Courses.{Inner, along, left_of, pending, still, turns}
use Rattle.opl_groups.specs.Met.{Met}

pub append-assoc : {A : Type 0} (xs ys zs : List A) → xs ++ (ys ++ zs) ≡ (xs ++ ys) ++ zs
append-assoc [] ys zs = refl
append-assoc (x ∷ xs) ys zs = ap (λ r. x ∷ r) (append-assoc xs ys zs)

pub under-last : (env : Environment) (ts : List Turn) (t : Turn) → under env (ts ++ t ∷ []) ≡ with_parameters (bound t.course.pattern.now t.element) (under env ts)
under-last env [] t = refl
under-last env (u ∷ us) t = under-last (with_parameters (bound u.course.pattern.now u.element) env) us t

pub still-last : (inner : Inner) (env : Environment) (after : List Met) (ts : List Turn) (t : Turn) → still inner env after (ts ++ t ∷ []) ≡ left_of inner t.course (under env ts) ++ still inner env after ts
still-last inner env after [] t = refl
still-last inner env after (u ∷ us) t = still-last inner (with_parameters (bound u.course.pattern.now u.element) env) (left_of inner u.course env ++ after) us t

-- no element is left
pub turn-none : (inner : Inner) (env : Environment) (c : Course) (ts : List Turn) → left c.rest ≡ [] →
    left_of inner c (under env ts) ++ still inner env [] ts ≡ pending inner env ahead.Back ts
turn-none inner env c ts h = ap (λ l. turns (λ behind v. along c.is_ordered c.others.now (cond c.is_ordered behind (left c.all)) (inner c.later) (with_parameters (bound c.pattern.now v) (under env ts))) l ++ still inner env [] ts) h

-- an element is chosen
pub turn-made : (inner : Inner) (env : Environment) (is_ordered : Bool) (p : Bor Pattern) (ps : Bor (List Pattern)) (all rest behind es : Elements) (later : ℕ) (v : Value) (old new : List Turn) →
    left rest ≡ v ∷ left behind → left es ≡ cond is_ordered (left behind) (left all) →
    new ≡ old ++ record { element = v; course = record { is_ordered = is_ordered; pattern = p; others = ps; all = all; rest = behind; later = later } } ∷ [] →
    left_of inner (record { is_ordered = is_ordered; pattern = p; others = ps; all = all; rest = rest; later = later }) (under env old) ++ still inner env [] old
    ≡ pending inner env (ahead.Patterns (record { is_ordered = is_ordered; patterns = ps; elements = es; later = later })) new
turn-made inner env is_ordered p ps all rest behind es later v old new h n k =
    let t : Turn = record { element = v; course = record { is_ordered = is_ordered; pattern = p; others = ps; all = all; rest = behind; later = later } } in
    let f : List Value → Value → List Met = λ after w. along is_ordered ps.now (cond is_ordered after (left all)) (inner later) (with_parameters (bound p.now w) (under env old)) in
    ap (λ l. turns f l ++ still inner env [] old) h
    ∙ sym (append-assoc (f (left behind) v) (turns f (left behind)) (still inner env [] old))
    ∙ (λ i. along is_ordered ps.now (sym n i) (inner later) (sym (under-last env old t) i) ++ sym (still-last inner env [] old t) i)
    ∙ ap (λ us. pending inner env (ahead.Patterns (record { is_ordered = is_ordered; patterns = ps; elements = es; later = later })) us) (sym k)

-- patterns are given their elements
pub entered : (inner : Inner) (env : Environment) (is_ordered : Bool) (all p : Bor (List Pattern)) (first : Bor Pattern) (es rest : Elements) (later : ℕ) (ts : List Turn) → all.now ≡ first.now ∷ p.now → left rest ≡ left es →
    pending inner env (ahead.Patterns (record { is_ordered = is_ordered; patterns = all; elements = es; later = later })) ts
    ≡ left_of inner (record { is_ordered = is_ordered; pattern = first; others = p; all = es; rest = rest; later = later }) (under env ts) ++ still inner env [] ts
entered inner env is_ordered all p first es rest later ts h n =
    ap (λ l. along is_ordered l (left es) (inner later) (under env ts) ++ still inner env [] ts) h
    ∙ ap (λ l. turns (λ behind v. along is_ordered p.now (cond is_ordered behind (left es)) (inner later) (with_parameters (bound first.now v) (under env ts))) l ++ still inner env [] ts) (sym n)

pub entered-none : (inner : Inner) (env : Environment) (is_ordered : Bool) (all : Bor (List Pattern)) (es : Elements) (later : ℕ) (ts : List Turn) → all.now ≡ [] →
    pending inner env (ahead.Patterns (record { is_ordered = is_ordered; patterns = all; elements = es; later = later })) ts ≡ pending inner env (ahead.Groups later) ts
entered-none inner env is_ordered all es later ts h = ap (λ l. along is_ordered l (left es) (inner later) (under env ts) ++ still inner env [] ts) h

-- the latest turn is gone back to
pub back-to : (inner : Inner) (env : Environment) (old rest : List Turn) (t : Turn) → old ≡ rest ++ t ∷ [] →
    pending inner env ahead.Back old ≡ left_of inner t.course (under env rest) ++ still inner env [] rest
back-to inner env old rest t h = ap (still inner env []) h ∙ still-last inner env [] rest t

-- nothing is left behind no turn
pub back-none : (inner : Inner) (env : Environment) (old : List Turn) → old ≡ [] → pending inner env ahead.Back old ≡ []
back-none inner env old h = ap (still inner env []) h
