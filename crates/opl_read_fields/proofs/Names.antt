-- Places among those of the names of fields that marks write.
use Rattle.std.proofs.Common.{◌≡◌, inl, ℕ, List, [], ◌∷◌, ◌++◌, refl, sym, ap, subst}
use Rattle.std.proofs.lemmas.List.{append-nil}
use Rattle.opl_tree.specs.Marks.{Mark, Marks, Part, place, token, unbraced, opens, word, sign, name, any, number, raised, nested}
use Rattle.opl_read_fields.specs.Places.{field_places}
use Rattle.opl_read_fields.proofs.Lists.{Among, among_both, among_more, among_same, among_then}

-- these places stand, in that order, among those of the names of fields
pub record Written (ps : List ℕ) (ms : Marks) : Type 0 where
  pub among : Among ps (field_places ms)

pub none_written : {ms : Marks} → Written [] ms
none_written = record { among = tt }

-- one more mark in front
more_written : (m : Mark) (ms : Marks) → Among (field_places ms) (field_places (m ∷ ms))
more_written (place at) [] = tt
more_written (place at) (place p ∷ ms) = among_same (field_places (place p ∷ ms))
more_written (place at) (unbraced ∷ ms) = among_same (field_places ms)
more_written (place at) (opens k ∷ ms) = among_same (field_places ms)
more_written (place at) (token (any text) ∷ ms) = among_more (field_places ms) (field_places ms) at (among_same (field_places ms))
more_written (place at) (token (word w) ∷ ms) = among_same (field_places ms)
more_written (place at) (token (sign s) ∷ ms) = among_same (field_places ms)
more_written (place at) (token (name text) ∷ ms) = among_same (field_places ms)
more_written (place at) (token (number n) ∷ ms) = among_same (field_places ms)
more_written (token p) ms = among_same (field_places ms)
more_written unbraced ms = among_same (field_places ms)
more_written (opens k) ms = among_same (field_places ms)

pub past : (m : Mark) {ms : Marks} {ps : List ℕ} → Written ps ms → Written ps (m ∷ ms)
past m {ms} {ps} h = record { among = among_then ps (field_places ms) (field_places (m ∷ ms)) h.among (more_written m ms) }

-- marks behind others
parts_written : (ms ns : Marks) → Among (field_places ms ++ field_places ns) (field_places (ms ++ ns))
parts_written [] ns = among_same (field_places ns)
parts_written (place at ∷ token (any text) ∷ ms) ns = inl (refl, parts_written ms ns)
parts_written (place at ∷ token (word w) ∷ ms) ns = parts_written ms ns
parts_written (place at ∷ token (sign s) ∷ ms) ns = parts_written ms ns
parts_written (place at ∷ token (name text) ∷ ms) ns = parts_written ms ns
parts_written (place at ∷ token (number n) ∷ ms) ns = parts_written ms ns
parts_written (place at ∷ []) ns = more_written (place at) ns
parts_written (place at ∷ place p ∷ ms) ns = parts_written (place p ∷ ms) ns
parts_written (place at ∷ unbraced ∷ ms) ns = parts_written ms ns
parts_written (place at ∷ opens k ∷ ms) ns = parts_written ms ns
parts_written (token p ∷ ms) ns = parts_written ms ns
parts_written (unbraced ∷ ms) ns = parts_written ms ns
parts_written (opens k ∷ ms) ns = parts_written ms ns

pub one_then : {ps qs : List ℕ} {ms ns : Marks} → Written ps ms → Written qs ns → Written (ps ++ qs) (ms ++ ns)
one_then {ps} {qs} {ms} {ns} h g =
    record { among = among_then (ps ++ qs) (field_places ms ++ field_places ns) (field_places (ms ++ ns)) (among_both ps (field_places ms) qs (field_places ns) h.among g.among) (parts_written ms ns) }

pub later : (ms : Marks) {ns : Marks} {ps : List ℕ} → Written ps ns → Written ps (ms ++ ns)
later [] h = h
later (m ∷ ms) h = past m (later ms h)

pub sooner : {ms : Marks} (ns : Marks) {ps : List ℕ} → Written ps ms → Written ps (ms ++ ns)
sooner {ms} ns {ps} h = subst (λ qs. Written qs (ms ++ ns)) (append-nil ps) (one_then h (none_written {ms = ns}))

-- marks one level deeper
raised_written : (ms : Marks) → field_places (raised ms) ≡ field_places ms
raised_written [] = refl
raised_written (place at ∷ token (any text) ∷ ms) = ap (λ ps. at ∷ ps) (raised_written ms)
raised_written (place at ∷ token (word w) ∷ ms) = raised_written ms
raised_written (place at ∷ token (sign s) ∷ ms) = raised_written ms
raised_written (place at ∷ token (name text) ∷ ms) = raised_written ms
raised_written (place at ∷ token (number n) ∷ ms) = raised_written ms
raised_written (place at ∷ []) = refl
raised_written (place at ∷ place p ∷ ms) = raised_written (place p ∷ ms)
raised_written (place at ∷ unbraced ∷ ms) = raised_written ms
raised_written (place at ∷ opens k ∷ ms) = raised_written ms
raised_written (token p ∷ ms) = raised_written ms
raised_written (unbraced ∷ ms) = raised_written ms
raised_written (opens k ∷ ms) = raised_written ms

pub inside : (p : Part) {ms : Marks} {ps : List ℕ} → Written ps ms → Written ps (nested p ms)
inside p {ms} {ps} h = record { among = subst (λ qs. Among ps qs) (sym (raised_written ms)) h.among }
