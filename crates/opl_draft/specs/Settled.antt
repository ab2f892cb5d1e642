-- What is settled of drafts without an assignment: the value of a part in which no variable is left, and the first fault that depends on
-- no variable. Such a fault refuses a model, wherever it stands.
use Rattle.std.specs.Prelude.{◌≡◌, ℕ, zero, suc, pos, Bool, true, false, cond, not, ◌||◌, ◌&&◌, List, [], ◌∷◌, ◌++◌, map, Option, Some, None, Ok, Err}
use Rattle.std.specs.List.{list_all, list_any}
use Rattle.std.specs.Option.{is_some, option_map}
use Rattle.std.specs.Ordering.{int_eq}
use Rattle.opl_value.specs.declared.value.Value.{Value}
use Rattle.opl_value.specs.declared.value.Value.TheVariants as values
use Rattle.opl_value.specs.Places.{place_in, place_of}
use Rattle.opl_eval.specs.declared.fault.EvalFault.TheVariants.{DivByZero, OutOfIndex}
use Rattle.opl_eval.specs.declared.arithmetic.Operation.{Operation}
use Rattle.opl_eval.specs.Arithmetic.{then, run, negative, absolute}
use Rattle.opl_eval.specs.Compare.{number, relates, all_different}
use Rattle.opl_eval.specs.Evaluation as evaluation
use Rattle.opl_eval.specs.Evaluation.{Found, at_place, found, integer, is_true}
use Rattle.opl_draft.specs.Drafts.{Cells, Draft, Drafts, Leaves, Sign, Steps, array_at, operation}
use Rattle.opl_draft.specs.Drafts.Drafts.{no_drafts, more_drafts}
use Rattle.opl_draft.specs.Drafts.Leaves.{listed, numbered}
use Rattle.opl_draft.specs.Drafts.Sign.{plus, minus, quotient, remainder}
use Rattle.opl_draft.specs.Drafts.Steps.{no_steps, more_steps}

-- a value where no variable is left, nothing where one is; or the first fault
abbrev pub Settled : Type 0
Settled = Found (Option Value)

-- ---- operands

-- what comes of one operand, of two, and of several, where they are settled
abbrev pub settle : {A : Type 0} → (A → Found Value) → Option A → Settled
settle come None = Ok None
settle come (Some a) = found (λ v. Some v) (come a)

abbrev pub pair_of : {A B : Type 0} → Option A → Option B → Option (A × B)
pair_of None b = None
pair_of (Some a) None = None
pair_of (Some a) (Some b) = Some (a, b)

abbrev pub all_of : {A : Type 0} → List (Option A) → Option (List A)
all_of [] = Some []
all_of (a ∷ others) = option_map (λ p. p.0 ∷ p.1) (pair_of a (all_of others))

-- ---- chains

-- a chain so far: what it begins with, and the operations behind that
abbrev pub Links : Type 0
Links = Option Value × List (Option Operation)

-- what it comes to
abbrev pub linked : ℕ → Links → Settled
linked at links = settle (λ p. integer (run at (number p.0) p.1)) (pair_of links.0 (all_of links.1))

abbrev pub divides : Sign → Bool
divides quotient = true
divides remainder = true
divides sign = false

-- a product or quotient of what a chain comes to and one operand more; a divisor that is settled as 0 is a fault, whatever is divided
abbrev pub multiplied : ℕ → Sign → Option Value → Option Value → Settled
multiplied at sign a None = Ok None
multiplied at sign a (Some b) =
    cond (divides sign && int_eq (number b) (pos 0)) (Err (DivByZero at)) (settle (λ v. integer (run at (number v) (operation sign (number b) ∷ []))) a)

-- one step more: sums are made when all their operands are there, products step by step
abbrev pub stepped : ℕ → Sign → Links → Option Value → Found Links
stepped at plus links v = Ok (links.0, links.1 ++ option_map (λ v. operation plus (number v)) v ∷ [])
stepped at minus links v = Ok (links.0, links.1 ++ option_map (λ v. operation minus (number v)) v ∷ [])
stepped at sign links v = then (linked at links) (λ a. found (λ b. (b, [])) (multiplied at sign a v))

-- ---- arrays

-- whether elements differ pairwise, where none of them is a variable
abbrev pub settled_leaves : Leaves → Option Value
settled_leaves (listed vs) = Some (values.Bool (all_different vs))
settled_leaves (numbered kind x zero) = Some (values.Bool true)
settled_leaves (numbered kind x (suc n)) = None

abbrev pub settled_cells : Option Cells → Option Value
settled_cells None = Some (values.Bool true)
settled_cells (Some a) = settled_leaves a.leaves

-- a subscript that is settled is an index
abbrev pub is_index : List Value → Option Value → Bool
is_index dim None = true
is_index dim (Some v) = is_some (place_in v dim)

abbrev pub are_indices : List (List Value) → List (Option Value) → Bool
are_indices (dim ∷ dims) (v ∷ vs) = is_index dim v && are_indices dims vs
are_indices dims vs = true

-- the element of an array with a key that is settled; one that is a variable is not
abbrev pub leaf : ℕ → Leaves → Option ℕ → Settled
leaf at (listed vs) place = found (λ v. Some v) (at_place at vs place)
leaf at (numbered kind x n) None = Err (OutOfIndex at)
leaf at (numbered kind x n) (Some p) = Ok None

abbrev pub element_of : ℕ → Cells → Option (List Value) → Settled
element_of at a None = Ok None
element_of at a (Some key) = leaf at a.leaves (place_of a.dims key)

-- what is no array has no element, which typing rules out
abbrev pub indexed : ℕ → Option Cells → List (Option Value) → Settled
indexed at None vs = Ok None
indexed at (Some a) vs = cond (are_indices a.dims vs) (element_of at a (all_of vs)) (Err (OutOfIndex at))

-- ---- drafts, where arrays are numbered as in this list

module _ (arrays : List Cells) where
  abbrev mutual
    -- inner parts before outer ones, and left ones before right ones
    pub settled : Draft → Settled
    settled (Draft.known at v) = Ok (Some v)
    settled (Draft.broken fault) = Err fault
    settled (Draft.variable at x kind) = Ok None
    settled (Draft.negated at d) = then (settled d) (settle (λ v. integer (negative at (number v))))
    settled (Draft.chain at d ss) = then (settled d) (λ v. then (settled_steps at (v, []) ss) (linked at))
    settled (Draft.related at r d e) = then (settled d) (λ v. then (settled e) (λ w. settle (λ p. Ok (values.Bool (relates r p.0 p.1))) (pair_of v w)))
    settled (Draft.equivalent at ds) = then (settled_all ds) (λ vs. settle (λ vs. Ok (values.Bool (evaluation.equivalent vs))) (all_of vs))
    settled (Draft.implied at d e) = then (settled d) (λ v. then (settled e) (λ w. settle (λ p. Ok (values.Bool (not (is_true p.0) || is_true p.1))) (pair_of v w)))
    settled (Draft.one_of at ds) = then (settled_all ds) (λ vs. settle (λ vs. Ok (values.Bool (list_any is_true vs))) (all_of vs))
    settled (Draft.all_of at ds) = then (settled_all ds) (λ vs. settle (λ vs. Ok (values.Bool (list_all is_true vs))) (all_of vs))
    settled (Draft.opposite at d) = then (settled d) (settle (λ v. Ok (values.Bool (not (is_true v)))))
    settled (Draft.aggregate at op ds) = then (settled_all ds) (λ vs. settle (λ vs. integer (evaluation.aggregate op at (map number vs))) (all_of vs))
    settled (Draft.absolute at d) = then (settled d) (settle (λ v. integer (absolute at (number v))))
    settled (Draft.different at a) = Ok (settled_cells a)
    settled (Draft.element at k ds) = then (settled_all ds) (indexed at (array_at arrays [] k))

    pub settled_all : Drafts → Found (List (Option Value))
    settled_all no_drafts = Ok []
    settled_all (more_drafts d ds) = then (settled d) (λ v. found (λ vs. v ∷ vs) (settled_all ds))

    pub settled_steps : ℕ → Links → Steps → Found Links
    settled_steps at links no_steps = Ok links
    settled_steps at links (more_steps sign d ss) = then (settled d) (λ v. then (stepped at sign links v) (λ more. settled_steps at more ss))

-- what is settled agrees with a value, if it is one
abbrev pub Agrees : {A : Type 0} → Option A → A → Type 0
Agrees None a = Unit {0}
Agrees (Some b) a = b ≡ a

-- what is settled is no fault, and fits what is found
abbrev pub Tells : {A B : Type 0} → (A → B → Type 0) → Found A → B → Type 0
Tells Fits (Ok a) b = Fits a b
Tells Fits (Err fault) b = ⊥
