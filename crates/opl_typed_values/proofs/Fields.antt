-- The value of `e.f`.
use Rattle.std.proofs.Common.{◌≡◌, ℕ, suc, ◌+◌, Bool, true, false, cond, List, [], ◌∷◌, ◌++◌, map, Some, Ok, Err, refl, sym, ap, subst, ◌∙◌, arith}
use Rattle.std.specs.Prelude.{bytes_eq}
use Rattle.opl_type_rules.specs.Types.{Sort, Sorts, sorts_of}
use Rattle.opl_type_rules.specs.Scope.{Field, Text, field_sort}
use Rattle.opl_term.specs.Terms.{with_fields}
use Rattle.opl_term.specs.declared.term.FieldName.{FieldName}
use Rattle.opl_term.specs.declared.term.Term.{Term}
use Rattle.opl_value.specs.declared.value.Value.{Value}
use Rattle.opl_value.specs.declared.value.Value.TheVariants as values
use Rattle.opl_value.specs.Places.{value_at}
use Rattle.opl_eval.specs.Evaluation.{Environment, Found, eval, found, part_at, part_of, parts, parts_layer}
use Rattle.opl_eval.proofs.Meanings.{meaning-Fields}
use Rattle.opl_typed_values.specs.OfSort.{HasSort, HaveSorts}
use Rattle.opl_typed_values.specs.Positions.{place_from}
use Rattle.opl_typed_values.proofs.Fitting.{first-has, some_same}
use Rattle.opl_typed_values.proofs.Outside.{same_ok, went}

-- ---- a chain of fields

found-same : (c : Found Value) → c ≡ found (λ v. v) c
found-same (Ok v) = refl
found-same (Err e) = refl

fields-come : (env : Environment) (p : ℕ) (u : Term) (fs : List FieldName) → eval (with_fields p u fs) env ≡ found (λ v. part_at env.position v fs) (eval u env)
fields-come env p u [] = found-same (eval u env)
fields-come env p u (f ∷ fs) = ap (λ m. m.value env) (meaning-Fields p u (f ∷ fs))

last-part : (position : ℕ → ℕ) (v : Value) (fs : List FieldName) (f : FieldName) → part_at position v (fs ++ f ∷ []) ≡ part_of position (part_at position v fs) f
last-part position v [] f = refl
last-part position v (g ∷ gs) f = last-part position (part_of position v g) gs f

-- the value of the last field is a part of what stands before it
pub field-comes : (env : Environment) (p : ℕ) (u : Term) (fs : List FieldName) (f : FieldName) (v : Value) → eval (with_fields p u (fs ++ f ∷ [])) env ≡ Ok v →
    (w : Value) × (eval (with_fields p u fs) env ≡ Ok w) × (v ≡ value_at (parts w) (env.position f.at))
field-comes env p u fs f v h =
    let w = went (eval u env) (λ x. Ok (part_at env.position x (fs ++ f ∷ []))) v (sym (fields-come env p u (fs ++ f ∷ [])) ∙ h) in
    (part_at env.position w.0 fs, fields-come env p u fs ∙ ap (found (λ x. part_at env.position x fs)) w.1, sym (same_ok (part_at env.position w.0 (fs ++ f ∷ [])) v w.2) ∙ last-part env.position w.0 fs f)

-- ---- the part at a field's place

module _ (fields : ℕ → Sorts) (names : ℕ → ℕ) where
  abbrev Sorts_of : List Field → Sorts
  Sorts_of fs = sorts_of (map (λ (f : Field). f.sort) fs)

  -- a field that is there has a place, at which a record has a part of its type
  pub place-has : (fs : List Field) (name : Text) (p : ℕ) (s : Sort) (vs : List Value) → HaveSorts fields names (Sorts_of fs) vs → field_sort name fs ≡ Some s →
      (r : ℕ) × (place_from p name fs ≡ Some (p + r)) × HasSort fields names s (value_at vs r)
  place-has [] name p s vs h e = absurd (cc)
  place-has (f ∷ fs) name p s vs h e = by (bytes_eq name f.name) e (λ ws i d. place-has fs name (p + 1) s ws i d)
    where
      parts : (v : Value) × (ws : List Value) × (vs ≡ v ∷ ws) × HasSort fields names f.sort v × HaveSorts fields names (Sorts_of fs) ws
      parts = first-has fields names (Sorts_of (f ∷ fs)) vs f.sort (Sorts_of fs) h refl

      by : (b : Bool) → cond b (Some f.sort) (field_sort name fs) ≡ Some s →
          ((ws : List Value) → HaveSorts fields names (Sorts_of fs) ws → field_sort name fs ≡ Some s → (r : ℕ) × (place_from (p + 1) name fs ≡ Some (p + 1 + r)) × HasSort fields names s (value_at ws r)) →
          (r : ℕ) × (cond b (Some p) (place_from (p + 1) name fs) ≡ Some (p + r)) × HasSort fields names s (value_at vs r)
      by true d more =
          (0, ap Some (omega arith), subst (λ (ws : List Value). HasSort fields names s (value_at ws 0)) (sym parts.2) (subst (λ (x : Sort). HasSort fields names x parts.0) (some_same f.sort s d) parts.3))
      by false d more =
          let r = more parts.1 parts.4 d in
          (suc r.0, r.1 ∙ ap Some (omega arith), subst (λ (ws : List Value). HasSort fields names s (value_at ws (suc r.0))) (sym parts.2) r.2)

  pub parts-of : (vs : List Value) → parts (values.Record vs) ≡ vs
  parts-of vs = ap parts_layer (values.outs-Record vs)
