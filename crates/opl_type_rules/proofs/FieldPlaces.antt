-- A struct's fields are found at the places that are kept for them.
use Rattle.std.proofs.Common.{◌≡◌, ℕ, ◌+◌, Bool, true, false, cond, List, [], ◌∷◌, ◌++◌, drop, map, Option, None, Some, refl, ap, sym, subst, ◌∙◌}
use Rattle.std.specs.Prelude.{bytes_eq}
use Rattle.std.specs.List.{slice_get}
use Rattle.std.specs.Option.{option_map}
use Rattle.std.specs.Cmp.Lexicographic.{bytes_decides}
use Rattle.std.proofs.lemmas.List.{map-append}
use Rattle.opl_type_rules.specs.declared.kind.Ty.{Ty}
use Rattle.opl_type_rules.specs.declared.names.Field.{Field}
use Rattle.opl_type_rules.specs.Fields.{Apart, first_type, last_type}
use Rattle.opl_type_rules.specs.NamePlaces.{latest_place}
use Rattle.opl_type_rules.specs.Scope.{field_sort}
use Rattle.opl_type_rules.specs.Types.{sort}
use Rattle.opl_type_rules.specs.Values.{field_of, field_at}
use Rattle.opl_type_rules.proofs.Places.{head-at, tail-at}

-- ---- what stands at a place

type-if : (b : Bool) (all : List Field) (i : ℕ) (f : Field) (before : Option ℕ) → slice_get all i ≡ Some f → cond b (Some f.ty) (field_at before all) ≡ field_at (cond b (Some i) before) all
type-if true all i f before h = sym (ap (option_map (λ x. x.ty)) h)
type-if false all i f before h = refl

last-along : (all : List Field) (name : List ℕ) (rest : List Field) (i : ℕ) (before : Option ℕ) → drop i all ≡ rest →
    last_type (field_at before all) name rest ≡ field_at (latest_place before i name (map (λ x. x.name) rest)) all
last-along all name [] i before h = refl
last-along all name (f ∷ fs) i before h =
    ap (λ o. last_type o name fs) (type-if (bytes_eq name f.name) all i f before (head-at all i f fs h))
    ∙ last-along all name fs (i + 1) (cond (bytes_eq name f.name) (Some i) before) (tail-at all i f fs h)

-- ---- the first field of a name

cond-map : (b : Bool) (t : Ty) (o : Option Ty) → option_map sort (cond b (Some t) o) ≡ cond b (Some (sort t)) (option_map sort o)
cond-map true t o = refl
cond-map false t o = refl

pub first-sort : (name : List ℕ) (fs : List Field) → option_map sort (first_type name fs) ≡ field_sort name (map field_of fs)
first-sort name [] = refl
first-sort name (f ∷ fs) = cond-map (bytes_eq name f.name) f.ty (first_type name fs) ∙ ap (cond (bytes_eq name f.name) (Some (sort f.ty))) (first-sort name fs)

pub field-found : (fs : List Field) (names : List (List ℕ)) (name : List ℕ) → Apart fs names → option_map sort (field_at (latest_place None 0 name names) fs) ≡ field_sort name (map field_of fs)
field-found fs names name h =
    ap (λ ns. option_map sort (field_at (latest_place None 0 name ns) fs)) h.0
    ∙ ap (option_map sort) (sym (last-along fs name fs 0 None refl) ∙ h.1 name)
    ∙ first-sort name fs

-- ---- one more field

last-push : (before : Option Ty) (name : List ℕ) (fs : List Field) (f : Field) → last_type before name (fs ++ f ∷ []) ≡ cond (bytes_eq name f.name) (Some f.ty) (last_type before name fs)
last-push before name [] f = refl
last-push before name (x ∷ xs) f = last-push (cond (bytes_eq name x.name) (Some x.ty) before) name xs f

abbrev either : Option Ty → Option Ty → Option Ty
either (Some t) o = Some t
either None o = o

either-none : (o : Option Ty) → either o None ≡ o
either-none (Some t) = refl
either-none None = refl

either-cond : (b : Bool) (t : Ty) (o p : Option Ty) → cond b (Some t) (either o p) ≡ either (cond b (Some t) o) p
either-cond true t o p = refl
either-cond false t o p = refl

first-push : (name : List ℕ) (fs : List Field) (f : Field) → first_type name (fs ++ f ∷ []) ≡ either (first_type name fs) (cond (bytes_eq name f.name) (Some f.ty) None)
first-push name [] f = refl
first-push name (x ∷ xs) f =
    ap (cond (bytes_eq name x.name) (Some x.ty)) (first-push name xs f)
    ∙ either-cond (bytes_eq name x.name) x.ty (first_type name xs) (cond (bytes_eq name f.name) (Some f.ty) None)

join-new : (b : Bool) (t : Ty) (o : Option Ty) → (b ≡ true → o ≡ None) → cond b (Some t) o ≡ either o (cond b (Some t) None)
join-new true t o h = sym (ap (λ x. either x (Some t)) (h refl))
join-new false t o h = sym (either-none o)

none-back : (o : Option Ty) → option_map sort o ≡ None → o ≡ None
none-back None h = refl
none-back (Some t) h = cc

none-first : (name : List ℕ) (fs : List Field) → field_sort name (map field_of fs) ≡ None → first_type name fs ≡ None
none-first name fs h = none-back (first_type name fs) (first-sort name fs ∙ h)

-- one more field, whose name none of them has
pub field-added : (fs new : List Field) (f : Field) (names more : List (List ℕ)) → Apart fs names → field_sort f.name (map field_of fs) ≡ None → new ≡ fs ++ f ∷ [] → more ≡ names ++ f.name ∷ [] → Apart new more
field-added fs new f names more h none q m = (
  m ∙ ap (λ ns. ns ++ f.name ∷ []) h.0 ∙ sym (map-append (λ x. x.name) fs (f ∷ [])) ∙ ap (map (λ x. x.name)) (sym q),
  λ name.
      ap (last_type None name) q
      ∙ last-push None name fs f
      ∙ ap (cond (bytes_eq name f.name) (Some f.ty)) (h.1 name)
      ∙ join-new (bytes_eq name f.name) f.ty (first_type name fs) (λ y. ap (λ n. first_type n fs) ((bytes_decides name f.name).0 y) ∙ none-first f.name fs none)
      ∙ sym (first-push name fs f)
      ∙ ap (first_type name) (sym q),
)

pub ruleset fields_placed = (field-found)
