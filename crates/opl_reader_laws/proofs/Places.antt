-- Marks behind some places: they take the same tokens and open the same levels.
use Rattle.std.proofs.Common.{◌≡◌, ℕ, List, [], ◌∷◌, sym, ap, subst}
use Rattle.opl_grammar.specs.Input.{Input}
use Rattle.opl_tree.specs.Marks.{Marks}
use Rattle.opl_tree.specs.Marks as mk
use Rattle.opl_reader_laws.proofs.Levels.{Fits, Beyond}
use Rattle.opl_reader_laws.proofs.Takes.{Takes, Begins}

-- some places, and then the rest
abbrev pub places : List ℕ → Marks → Marks
places [] ms = ms
places (n ∷ ns) ms = mk.place n ∷ places ns ms

-- marks that are the others behind some places
pub record Within (ms ns : Marks) : Type 0 where
  pub at : List ℕ
  pub is : ms ≡ places at ns

pub within_place : {ms ns : Marks} (at : ℕ) → Within ms ns → Within (mk.place at ∷ ms) ns
within_place at w = record { at = at ∷ w.at; is = ap (λ xs. mk.place at ∷ xs) w.is }

places_takes : (ns : List ℕ) (ms : Marks) (i j : Input) → Takes (places ns ms) i j → Takes ms i j
places_takes [] ms i j h = h
places_takes (n ∷ ns) ms i j h = places_takes ns ms i j h.1

places_begin : (ns : List ℕ) (ms : Marks) (i j : Input) → Begins ms i j → Begins (places ns ms) i j
places_begin [] ms i j h = h
places_begin (n ∷ ns) ms i j h = places_begin ns ms i j h

places_begun : (ns : List ℕ) (ms : Marks) (i j : Input) → Begins (places ns ms) i j → Begins ms i j
places_begun [] ms i j h = h
places_begun (n ∷ ns) ms i j h = places_begun ns ms i j h

places_fit : (n : ℕ) (ns : List ℕ) (ms : Marks) → Fits n ms → Fits n (places ns ms)
places_fit n [] ms h = h
places_fit n (x ∷ ns) ms h = places_fit n ns ms h

fit_places : (n : ℕ) (ns : List ℕ) (ms : Marks) → Fits n (places ns ms) → Fits n ms
fit_places n [] ms h = h
fit_places n (x ∷ ns) ms h = fit_places n ns ms h

places_beyond : (n : ℕ) (ns : List ℕ) (ms : Marks) (i : Input) (at : ℕ) → Beyond n ms i at → Beyond n (places ns ms) i at
places_beyond n [] ms i at h = h
places_beyond n (x ∷ ns) ms i at h = places_beyond n ns ms i at h

pub within_takes : {ms ns : Marks} → Within ms ns → (i j : Input) → Takes ms i j → Takes ns i j
within_takes {ms} {ns} w i j h = places_takes w.at ns i j (subst (λ xs. Takes xs i j) w.is h)

pub within_begins : {ms ns : Marks} → Within ms ns → (i j : Input) → Begins ns i j → Begins ms i j
within_begins {ms} {ns} w i j h = subst (λ xs. Begins xs i j) (sym w.is) (places_begin w.at ns i j h)

pub within_begun : {ms ns : Marks} → Within ms ns → (i j : Input) → Begins ms i j → Begins ns i j
within_begun {ms} {ns} w i j h = places_begun w.at ns i j (subst (λ xs. Begins xs i j) w.is h)

pub within_deep : {ms ns : Marks} → Within ms ns → (n : ℕ) → Fits n ms → Fits n ns
within_deep {ms} {ns} w n h = fit_places n w.at ns (subst (Fits n) w.is h)

pub within_shallow : {ms ns : Marks} → Within ms ns → (n : ℕ) → Fits n ns → Fits n ms
within_shallow {ms} {ns} w n h = subst (Fits n) (sym w.is) (places_fit n w.at ns h)

pub within_beyond : {ms ns : Marks} → Within ms ns → (n : ℕ) (i : Input) (at : ℕ) → Beyond n ns i at → Beyond n ms i at
within_beyond {ms} {ns} w n i at h = subst (λ xs. Beyond n xs i at) (sym w.is) (places_beyond n w.at ns i at h)
