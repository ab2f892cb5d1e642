-- Sound parts, and how they stand as numbers, by their ranks and as conditions.
use Rattle.std.proofs.Common.{◌≡◌, ℕ, ◌+◌, ◌*◌, ◌^◌, ◌<◌, max, ℤ, pos, unsigned_abs, List, [], ◌∷◌, ◌++◌, map, Option, None, Some, refl, sym, ap, subst, ◌∙◌, arith}
use Rattle.opl_value.specs.declared.value.Value.{Value}
use Rattle.opl_eval.specs.Compare as compare
use Rattle.opl_eval.specs.Compare.{number_layer, rank, rank_layer}
use Rattle.opl_eval.specs.Evaluation.{is_true}
use Rattle.opl_draft.specs.Drafts.{Cells}
use Rattle.opl_expr.specs.declared.forms.Cons.{Cons}
use Rattle.opl_expr.specs.declared.forms.Cons.TheVariants as C
use Rattle.opl_expr.specs.declared.forms.Expr.{Expr}
use Rattle.opl_expr.specs.declared.forms.Expr.TheVariants as E
use Rattle.opl_expr.specs.declared.forms.Op.{Op}
use Rattle.opl_expr.specs.declared.forms.Op.TheVariants.{Eq, Ne, Lt, Le, Gt, Ge}
use Rattle.opl_expr.specs.Forms as forms
use Rattle.opl_expr.specs.Forms.{Term, Terms, Fact, Facts, constant_value, product_by, term, fact, terms_of, facts_of}
use Rattle.opl_expr.specs.Forms.Relation.{equal}
use Rattle.opl_expr.specs.Sound.{AreComparable, AreSoundFacts, AreSoundTerms, IsSmall, IsSoundFact, IsSoundTerm, greatest_magnitude, term_magnitude}
use Rattle.opl_expr.proofs.Plain.{term_Const, term_Mul, term_Truth, fact_Cmp, fact_Fixed}
use Rattle.opl_form.specs.Parts.{Form, all_known, as_condition, as_number, nothing, ranked, tables, with_value}
use Rattle.opl_form.specs.Parts.Form.{known, number, name, condition, truth}
use Rattle.opl_form.specs.Measures.{greatest}
use Rattle.opl_form.specs.Nodes.{size, two_greatest}
use Rattle.opl_form.specs.Worth.{plain, plain_fact}
use Rattle.opl_form.proofs.Nodes.{next-made, ok-same, sized-made}
use Rattle.opl_form.proofs.Nodes as proved
use Rattle.opl_form.proofs.SoundValues.{IsSmallValue, AreSmallValues, nothing-times, zero-small}

abbrev pub AllSound : List (ℤ × ℤ) → List Term → Type 0
AllSound sets [] = Unit {0}
AllSound sets (t ∷ ts) = IsSoundTerm sets t × AllSound sets ts

all-sound-terms : (sets : List (ℤ × ℤ)) (ts : List Term) → AllSound sets ts → AreSoundTerms sets (terms_of ts)
all-sound-terms sets [] h = tt
all-sound-terms sets (t ∷ ts) h = (h.0, all-sound-terms sets ts h.1)

greatest-is : (sets : List (ℤ × ℤ)) (ts : List Term) → greatest (map (term_magnitude sets) ts) ≡ greatest_magnitude sets (terms_of ts)
greatest-is sets [] = refl
greatest-is sets (t ∷ ts) = ap (max (term_magnitude sets t)) (greatest-is sets ts)

comparable-terms : (sets : List (ℤ × ℤ)) (ts : List Term) → two_greatest (map (term_magnitude sets) ts) < 2 ^ 127 → AreComparable sets (terms_of ts)
comparable-terms sets [] l = tt
comparable-terms sets (t ∷ []) l = (omega (arith, l), tt)
comparable-terms sets (t ∷ b ∷ ts) l = (
  subst (λ n. term_magnitude sets t + n < 2 ^ 127) (greatest-is sets (b ∷ ts)) (first (term_magnitude sets t + greatest (map (term_magnitude sets) (b ∷ ts))) (two_greatest (map (term_magnitude sets) (b ∷ ts))) l),
  comparable-terms sets (b ∷ ts) (rest (term_magnitude sets t + greatest (map (term_magnitude sets) (b ∷ ts))) (two_greatest (map (term_magnitude sets) (b ∷ ts))) l),
)
  where
    first : (m n : ℕ) → max m n < 2 ^ 127 → m < 2 ^ 127
    first m n h = omega (arith, h)

    rest : (m n : ℕ) → max m n < 2 ^ 127 → n < 2 ^ 127
    rest m n h = omega (arith, h)

pub differ-sound : (sets : List (ℤ × ℤ)) (ts : List Term) → AllSound sets ts → two_greatest (map (term_magnitude sets) ts) < 2 ^ 127 → IsSoundFact sets (Fact.different (terms_of ts))
differ-sound sets ts h l = (comparable-terms sets ts l, all-sound-terms sets ts h)

module _ (sets : List (ℤ × ℤ)) (arrays : List Cells) where
  -- a part by whose views sound forms are made
  abbrev pub IsSoundPart : Form → Type 0
  IsSoundPart (known v) = IsSmallValue v
  IsSoundPart (number e) = IsSoundTerm sets (plain arrays e)
  IsSoundPart (name d e) = IsSoundTerm sets (plain arrays e)
  IsSoundPart (condition c) = IsSoundFact sets (plain_fact arrays c)
  IsSoundPart (truth c) = IsSoundFact sets (plain_fact arrays c)

  const-sound : (k : ℤ) → IsSmall (unsigned_abs k) → IsSoundTerm sets (plain arrays (E.Const k))
  const-sound k h = subst (IsSoundTerm sets) (sym (term_Const (tables arrays) [] k)) h

  plain-nothing : (e : Expr) → plain arrays (nothing e) ≡ Term.scale (pos 0) (plain arrays e)
  plain-nothing e = term_Mul (tables arrays) [] (E.Const (pos 0)) e ∙ ap (λ t. forms.product t (plain arrays e)) (term_Const (tables arrays) [] (pos 0))

  pub nothing-sound : (e : Expr) → IsSoundTerm sets (plain arrays e) → IsSoundTerm sets (plain arrays (nothing e))
  nothing-sound e h = subst (IsSoundTerm sets) (sym (plain-nothing e)) (nothing-times (term_magnitude sets (plain arrays e)), zero-small, h)

  truth-sound : (c : Cons) → IsSoundFact sets (plain_fact arrays c) → IsSoundTerm sets (plain arrays (E.Truth c))
  truth-sound c h = subst (IsSoundTerm sets) (sym (term_Truth (tables arrays) [] c)) h

  pub as_number-sound : (g : Form) → IsSoundPart g → IsSoundTerm sets (plain arrays (as_number g))
  as_number-sound (known v) h = const-sound (compare.number v) h.0
  as_number-sound (number e) h = h
  as_number-sound (name d e) h = nothing-sound e h
  as_number-sound (condition c) h = truth-sound c h
  as_number-sound (truth c) h = truth-sound c h

  pub ranked-sound : (g : Form) → IsSoundPart g → IsSoundTerm sets (plain arrays (ranked g))
  ranked-sound (known v) h = const-sound (rank v) h.1
  ranked-sound (number e) h = h
  ranked-sound (name d e) h = h
  ranked-sound (condition c) h = truth-sound c h
  ranked-sound (truth c) h = truth-sound c h

  turned : (m n : ℕ) → m + n < 2 ^ 127 → n + m < 2 ^ 127
  turned m n h = omega (arith, h)

  -- a comparison of sound sides whose magnitudes are small together
  compared-sound : (op : Op) (s t : Term) → IsSmall (term_magnitude sets s + term_magnitude sets t) → IsSoundTerm sets s → IsSoundTerm sets t → IsSoundFact sets (forms.compared op s t)
  compared-sound Eq s t h a b = (h, a, b)
  compared-sound Ne s t h a b = (h, a, b)
  compared-sound Lt s t h a b = (h, a, b)
  compared-sound Le s t h a b = (h, a, b)
  compared-sound Gt s t h a b = (turned (term_magnitude sets s) (term_magnitude sets t) h, b, a)
  compared-sound Ge s t h a b = (turned (term_magnitude sets s) (term_magnitude sets t) h, b, a)

  pub cmp-sound : (op : Op) (e f : Expr) → IsSmall (size sets arrays e + size sets arrays f) → IsSoundTerm sets (plain arrays e) → IsSoundTerm sets (plain arrays f) → IsSoundFact sets (plain_fact arrays (C.Cmp op e f))
  cmp-sound op e f h a b = subst (IsSoundFact sets) (sym (fact_Cmp (tables arrays) [] op e f)) (compared-sound op (plain arrays e) (plain arrays f) h a b)

  pub nothing-cmp : (op : Op) (e : Expr) → IsSoundTerm sets (plain arrays e) → IsSoundFact sets (plain_fact arrays (C.Cmp op (nothing e) (nothing e)))
  nothing-cmp op e h =
      cmp-sound op (nothing e) (nothing e) (subst (λ t. IsSmall (term_magnitude sets t + term_magnitude sets t)) (sym (plain-nothing e)) (twice (term_magnitude sets (plain arrays e)))) (nothing-sound e h) (nothing-sound e h)
    where
      twice : (k : ℕ) → unsigned_abs (pos 0) * k + unsigned_abs (pos 0) * k < 2 ^ 127
      twice k = omega arith

  pub as_condition-sound : (g : Form) → IsSoundPart g → IsSoundFact sets (plain_fact arrays (as_condition g))
  as_condition-sound (known v) h = subst (IsSoundFact sets) (sym (fact_Fixed (tables arrays) [] (is_true v))) tt
  as_condition-sound (number e) h = nothing-cmp Ne e h
  as_condition-sound (name d e) h = nothing-cmp Ne e h
  as_condition-sound (condition c) h = h
  as_condition-sound (truth c) h = h

  abbrev pub AreSound : List Form → Type 0
  AreSound [] = Unit {0}
  AreSound (g ∷ gs) = IsSoundPart g × AreSound gs

  pub numbers-sound : (gs : List Form) → AreSound gs → AreSoundTerms sets (terms_of (map (plain arrays) (map as_number gs)))
  numbers-sound [] h = tt
  numbers-sound (g ∷ gs) h = (as_number-sound g h.0, numbers-sound gs h.1)

  pub ranks-sound : (gs : List Form) → AreSound gs → AreSoundTerms sets (terms_of (map (plain arrays) (map ranked gs)))
  ranks-sound [] h = tt
  ranks-sound (g ∷ gs) h = (ranked-sound g h.0, ranks-sound gs h.1)

  pub all-sound : (gs : List Form) → AreSound gs → AllSound sets (map (plain arrays) (map ranked gs))
  all-sound [] h = tt
  all-sound (g ∷ gs) h = (ranked-sound g h.0, all-sound gs h.1)

  pub conditions-sound : (gs : List Form) → AreSound gs → AreSoundFacts sets (facts_of (map (plain_fact arrays) (map as_condition gs)))
  conditions-sound [] h = tt
  conditions-sound (g ∷ gs) h = (as_condition-sound g h.0, conditions-sound gs h.1)

  -- the values of sound parts are small
  pub known-small : (gs : List Form) (vs : List Value) → AreSound gs → all_known gs ≡ Some vs → AreSmallValues vs
  known-small [] vs s h = subst AreSmallValues (proved.some-same [] vs h) tt
  known-small (known v ∷ gs) vs s h = by (all_known gs) (λ us e. known-small gs us s.1 e) h
    where
      by : (o : Option (List Value)) → ((us : List Value) → o ≡ Some us → AreSmallValues us) → with_value (known v) o ≡ Some vs → AreSmallValues vs
      by None f k = absurd (cc)
      by (Some us) f k = subst AreSmallValues (proved.some-same (v ∷ us) vs k) (s.0, f us refl)
  known-small (number e ∷ gs) vs s h = absurd (cc)
  known-small (name d e ∷ gs) vs s h = absurd (cc)
  known-small (condition c ∷ gs) vs s h = absurd (cc)
  known-small (truth c ∷ gs) vs s h = absurd (cc)
