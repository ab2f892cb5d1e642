-- A phrase that does not begin with a brace.
use Rattle.std.proofs.Common.{◌≡◌, ℕ, Bool, true, false, cond, ◌⊎◌, inl, inr, List, [], ◌∷◌, None, Ok, Err, refl, sym, ap, ◌∙◌, subst}
use Rattle.opl_token.specs.declared.sign.Sign.TheVariants as signs
use Rattle.opl_tree.specs.Marks.{Mark}
use Rattle.opl_tree.specs.Marks as mk
use Rattle.opl_grammar.specs.Input.{Input, Stop, syntax, Outcome, Parser, kind, refuse, is_sign}
use Rattle.opl_grammar.specs.Input.{place as place_at}
use Rattle.opl_reader_laws.proofs.Outcomes.{err_one, ok_not_err}
use Rattle.opl_reader_laws.proofs.Phrases.{Shape, Accepts, Sound, Sample, Good, Viable, Fails, AllFail, Law, more_test, Any}
use Rattle.opl_reader_laws.proofs.Takes.{IsUnbraced, Begins, takes_begins, Written, writes_kind, stop_front}

-- the phrase, unless a `{` comes
abbrev pub guarded : {A : Type 0} → Parser A → Parser A
guarded {A} p = λ i. cond {A = Outcome A} (is_sign signs.OpenBrace (kind i)) (refuse i) (p i)

abbrev pub guarded_shape : {A : Type 0} → Shape A → Shape A
guarded_shape s = record {
  marks = λ a. mk.unbraced ∷ s.marks a;
  Tag = s.Tag;
  tag = s.tag;
  fits = s.fits;
  ends = s.ends;
  closes = s.closes;
  begins = λ F k. s.begins F k × IsUnbraced k;
}

-- a value that does not begin with a brace
pub record Bare {A : Type 0} (s : Shape A) (tail : Input) : Type 1 where
  pub sample : Sample s tail
  pub bare : IsUnbraced (kind sample.whole)

-- marks without a token
abbrev NoToken : List Mark → Type 0
NoToken [] = Unit {0}
NoToken (mk.place at ∷ ms) = NoToken ms
NoToken (mk.token p ∷ ms) = ⊥
NoToken (mk.unbraced ∷ ms) = NoToken ms
NoToken (mk.opens k ∷ ms) = NoToken ms

token_or_none : (ms : List Mark) → Written ms ⊎ NoToken ms
token_or_none [] = inr tt
token_or_none (mk.place at ∷ ms) = by_rest (token_or_none ms) where
  by_rest : Written ms ⊎ NoToken ms → Written (mk.place at ∷ ms) ⊎ NoToken (mk.place at ∷ ms)
  by_rest (inl w) = inl (record { first = w.first; is = w.is })
  by_rest (inr h) = inr h
token_or_none (mk.token p ∷ ms) = inl (record { first = p; is = refl })
token_or_none (mk.unbraced ∷ ms) = by_rest (token_or_none ms) where
  by_rest : Written ms ⊎ NoToken ms → Written (mk.unbraced ∷ ms) ⊎ NoToken (mk.unbraced ∷ ms)
  by_rest (inl w) = inl (record { first = w.first; is = w.is })
  by_rest (inr h) = inr h
token_or_none (mk.opens k ∷ ms) = by_rest (token_or_none ms) where
  by_rest : Written ms ⊎ NoToken ms → Written (mk.opens k ∷ ms) ⊎ NoToken (mk.opens k ∷ ms)
  by_rest (inl w) = inl (record { first = w.first; is = w.is })
  by_rest (inr h) = inr h

none_begins : (ms : List Mark) (i : Input) → NoToken ms → IsUnbraced (kind i) → Begins ms i i
none_begins [] i h b = refl
none_begins (mk.place at ∷ ms) i h b = none_begins ms i h b
none_begins (mk.token p ∷ ms) i h b = absurd h
none_begins (mk.unbraced ∷ ms) i h b = (b, none_begins ms i h b)
none_begins (mk.opens k ∷ ms) i h b = none_begins ms i h b

-- no token is left, at the same place
abbrev ended : Input → Input
ended i = record { tokens = []; end = place_at i }

none_ended : (ms : List Mark) (i j : Input) → NoToken ms → Begins ms i j → Begins ms (ended i) (ended i)
none_ended [] i j h t = refl
none_ended (mk.place at ∷ ms) i j h t = none_ended ms i j h t
none_ended (mk.token p ∷ ms) i j h t = absurd h
none_ended (mk.unbraced ∷ ms) i j h t = (refl, none_ended ms i j h t.1)
none_ended (mk.opens k ∷ ms) i j h t = none_ended ms i j h t

-- the first token is the same
same_first : (ms : List Mark) (i j i' j' : Input) → Written ms → Begins ms i j → Begins ms i' j' → IsUnbraced (kind i) → IsUnbraced (kind i')
same_first ms i j i' j' w h k b = subst IsUnbraced (writes_kind w.first ms i j w.is h ∙ sym (writes_kind w.first ms i' j' w.is k)) b

module _ {A : Type 0} (n : ℕ) (p : Parser A) (s : Shape A) (P : Good n p s) (nonempty : s.begins Any None → ⊥) (bare : (tail : Input) → s.closes (kind tail) → Bare s tail) where
  guarded_ok : (i : Input) (a : A) (j : Input) → IsUnbraced (kind i) → p i ≡ Ok (a, j) → guarded p i ≡ Ok (a, j)
  guarded_ok i a j b h = rw (b, h) refl

  guarded_read : (i : Input) (a : A) (j : Input) → IsUnbraced (kind i) → Accepts p s a i j → Accepts (guarded p) (guarded_shape s) a i j
  guarded_read i a j b x = record { value = x.value; is = guarded_ok i x.value j b x.is; same = x.same }

  -- whatever is read writes a token
  writes_some : (i : Input) (a : A) (j : Input) → Sound p s n i a j → Written (s.marks a)
  writes_some i a j x = by_token (token_or_none (s.marks a)) where
    by_token : Written (s.marks a) ⊎ NoToken (s.marks a) → Written (s.marks a)
    by_token (inl w) = w
    by_token (inr none) = absurd (nonempty (P.front (ended i) a (ended i) Any (none_ended (s.marks a) i j none (takes_begins (s.marks a) i j x.takes)) tt))

  guarded_sound : (i : Input) (a : A) (j : Input) (b : Bool) → is_sign signs.OpenBrace (kind i) ≡ b → cond {A = Outcome A} b (refuse i) (p i) ≡ Ok (a, j) → Sound (guarded p) (guarded_shape s) n i a j
  guarded_sound i a j true b h = absurd (ok_not_err (sym h))
  guarded_sound i a j false b h =
      let x = P.sound i a j h in
      record {
        takes = (b, x.takes);
        fits = x.fits;
        deep = x.deep;
        again = λ i' j' m e. guarded_read i' a j' m.0 (x.again i' j' m.1 e);
        before = λ tail.
            let y = x.before tail in
            record { start = y.start; begins = (same_first (s.marks a) i j y.start tail (writes_some i a j x) (takes_begins (s.marks a) i j x.takes) y.begins b, y.begins) };
      }

  guarded_good : Good n (guarded p) (guarded_shape s)
  guarded_good = record {
    sound = λ i a j h. guarded_sound i a j (is_sign signs.OpenBrace (kind i)) refl h;
    complete = λ i a j fits d h e. guarded_ok i a j h.0 (P.complete i a j fits d h.1 e);
    accepts = λ i a j fits d h e. guarded_read i a j h.0 (P.accepts i a j fits d h.1 e);
    opening = λ i a j at fits h e g. let x = P.opening i a j at fits h.1 e g in let b = h.0 in rw (b, x) refl;
    front = λ i a j F h e. (P.front i a j F h.1 e, h.0);
    closing = P.closing;
    sample = λ tail h. let a = bare tail h in record { whole = a.sample.whole; value = a.sample.value; takes = (a.bare, a.sample.takes); starts = λ F k. (a.sample.starts F k, a.bare) };
  }

  brace_fails : (i : Input) → is_sign signs.OpenBrace (kind i) ≡ true → Fails n (guarded p) (guarded_shape s) i (syntax (place_at i))
  brace_fails i b = record {
    front = [];
    stop = i;
    begins = refl;
    position = refl;
    again = λ j m h c. let same : is_sign signs.OpenBrace (kind j) ≡ true = ap (λ x. is_sign signs.OpenBrace (kind x)) h ∙ (ap (is_sign signs.OpenBrace) c ∙ b) in record { fault = syntax (place_at j); is = rw same refl; like = refl; position = ap place_at h };
    viable = λ tail h.
        let a = bare tail h in
        record { whole = a.sample.whole; mid = a.sample.whole; value = a.sample.value; begins = refl; takes = (a.bare, a.sample.takes); starts = λ F k. (a.sample.starts F k, a.bare) };
  }

  inner_fails : (i : Input) (e : Stop) → IsUnbraced (kind i) → Fails n p s i e → Fails n (guarded p) (guarded_shape s) i e
  inner_fails i e b f = record {
    front = f.front;
    stop = f.stop;
    begins = f.begins;
    position = f.position;
    again = λ j m h c.
        let x = f.again j m h c in
        let same = stop_front e f.front i f.stop j m i f.stop f.position f.begins h c in
        let b' : is_sign signs.OpenBrace (kind j) ≡ false = ap (is_sign signs.OpenBrace) same ∙ b in
        let first = x.is in
        record { fault = x.fault; is = rw (b', first) refl; like = x.like; position = x.position };
    viable = λ tail h. by_front tail h (token_or_none f.front);
  } where
    by_front : (tail : Input) → s.closes (kind tail) → Written f.front ⊎ NoToken f.front → Viable (guarded_shape s) f.front tail
    by_front tail h (inl w) =
        let a = f.viable tail h in
        let c = same_first f.front i f.stop a.whole a.mid w f.begins a.begins b in
        record { whole = a.whole; mid = a.mid; value = a.value; begins = a.begins; takes = (c, a.takes); starts = λ F k. (a.starts F k, c) }
    by_front tail h (inr none) =
        let a = bare tail h in
        record { whole = a.sample.whole; mid = a.sample.whole; value = a.sample.value; begins = none_begins f.front a.sample.whole none a.bare; takes = (a.bare, a.sample.takes); starts = λ F k. (a.sample.starts F k, a.bare) }

  guarded_fails : AllFail n p s → (i : Input) (e : Stop) (b : Bool) → is_sign signs.OpenBrace (kind i) ≡ b → cond {A = Outcome A} b (refuse i) (p i) ≡ Err e → Fails n (guarded p) (guarded_shape s) i e
  guarded_fails f i e true b h = subst (λ x. Fails n (guarded p) (guarded_shape s) i x) (err_one h) (brace_fails i b)
  guarded_fails f i e false b h = inner_fails i e b (f i e h)

pub guarded_law : {A : Type 0} {n : ℕ} {p q : Parser A} {s : Shape A} → Law n p q s → (s.begins Any None → ⊥) → ((tail : Input) → s.closes (kind tail) → Bare s tail) → Law n (guarded p) (guarded q) (guarded_shape s)
guarded_law {A} {n} {p} {q} {s} P nonempty bare = record {
  good = guarded_good n p s P.good nonempty bare;
  fails = λ i e h. guarded_fails n p s P.good nonempty bare P.fails i e (is_sign signs.OpenBrace (kind i)) refl h;
  more = λ i. more_test {A = A} (is_sign signs.OpenBrace (kind i)) (refuse i) (p i) (refuse i) (q i) (λ d. refl) (P.more i);
  fit = P.fit;
}
