-- The end of a text: nothing is left, and what was read before it is the whole.
use Rattle.std.proofs.Common.{◌≡◌, ℕ, ◌≤◌, [], Option, Some, None, Ok, Err, refl, sym, ap, ◌∙◌, subst, append-nil}
use Rattle.opl_token.specs.declared.token.Kind.{Kind}
use Rattle.opl_grammar.specs.Input.{Input, Stop, syntax, Parser, kind, place as place_at, ◌>>=◌, pure}
use Rattle.opl_grammar.specs.Model as gm
use Rattle.opl_tree.specs.Marks.{Marks}
use Rattle.opl_reader_laws.proofs.Forms.{mapped, plain, plain_law}
use Rattle.opl_reader_laws.proofs.Outcomes.{ok_one, err_one, ok_not_err, bind_ok, and_then_assoc}
use Rattle.opl_reader_laws.proofs.Phrases.{Shape, Fails, Law, pair, pair_law}
use Rattle.opl_reader_laws.proofs.Takes.{Begins}
use Rattle.opl_reader_laws.proofs.Whole.{Grammar}

abbrev finish_shape : Shape (Unit {0})
finish_shape = record {
  marks = λ u. [];
  Tag = Unit {0};
  tag = λ u. u;
  fits = λ u. Unit {0};
  ends = λ x k. k ≡ None;
  closes = λ k. k ≡ None;
  begins = λ F. F;
}

finish_ok : (i : Input) (o : Option Kind) → kind i ≡ o → (u : Unit {0}) (j : Input) → gm.stop_unless (gm.nothing_left o) i ≡ Ok (u, j) → (i ≡ j) × (kind j ≡ None)
finish_ok i None e u j h = let same = ap (λ c. c.1) (ok_one h) in (same, ap kind (sym same) ∙ e)
finish_ok i (Some k) e u j h = absurd (ok_not_err (sym h))

finish_reads : (i j : Input) → Begins [] i j → kind j ≡ None → gm.finish i ≡ Ok (tt, j)
finish_reads i j h e = let there : kind i ≡ None = ap kind h ∙ e in rw (there, h) refl

finish_fails : (n : ℕ) (i : Input) (o : Option Kind) → kind i ≡ o → (e : Stop) → gm.stop_unless (gm.nothing_left o) i ≡ Err e → Fails n gm.finish finish_shape i e
finish_fails n i None e f h = absurd (ok_not_err h)
finish_fails n i (Some k) e f h = subst (λ x. Fails n gm.finish finish_shape i x) (err_one h) (record {
  front = [];
  stop = i;
  begins = refl;
  position = refl;
  again = λ j m b c. let there : kind j ≡ Some k = ap kind b ∙ (c ∙ e) in record { fault = syntax (place_at j); is = rw there refl; like = refl; position = ap place_at b };
  viable = λ tail c. record { whole = tail; mid = tail; value = tt; begins = refl; takes = refl; starts = λ F k. k };
})

pub finish_law : {n : ℕ} → Law n gm.finish gm.finish finish_shape
finish_law {n} = record {
  good = record {
    sound = λ i u j h.
        let f = finish_ok i (kind i) refl u j h in
        record {
          takes = f.0;
          fits = tt;
          deep = tt;
          again = λ i' j' b e. record { value = tt; is = finish_reads i' j' b (e ∙ f.1); same = refl };
          before = λ tail. record { start = tail; begins = refl };
        };
    complete = λ i u j fits d h e. finish_reads i j h e;
    accepts = λ i u j fits d h e. record { value = tt; is = finish_reads i j h e; same = refl };
    opening = λ i u j at fits b e g. absurd g;
    front = λ i u j F h e. subst (λ x. F (kind x)) (sym h) e;
    closing = λ x k h. h;
    sample = λ tail h. record { whole = tail; value = tt; takes = refl; starts = λ F k. k };
  };
  fails = λ i e h. finish_fails n i (kind i) refl e h;
  more = λ i d. refl;
  fit = λ u. tt;
}

-- ---- a text, and nothing behind it

abbrev pub whole_of : {T : Type 0} → Parser T → Parser T
whole_of p = p >>= (λ t. gm.finish >>= (λ u. pure t))

-- a phrase that stops at the end, and nothing behind it, is a grammar
pub whole_grammar : {T : Type 0} {marks : T → Marks} {closes : Option Kind → Type 0} {begins : (Option Kind → Type 0) → Option Kind → Type 0} (text : ℕ → Parser T) → ((n k : ℕ) → n ≤ k → Law n (text n) (text k) (plain marks closes begins)) →
    closes None → (read : ℕ → Parser T) → ((n : ℕ) (i : Input) → read n i ≡ whole_of (text n) i) → Grammar marks begins read
whole_grammar {T} {marks} {closes} {begins} text law stops read is = record { law = whole_law; ends = whole_ends } where
  in_pair : (n : ℕ) (i : Input) → read n i ≡ mapped (λ (c : T × Unit {0}). c.0) (pair (text n) gm.finish) i
  in_pair n i = is n i ∙ simp and_then_assoc

  whole_law : (n k : ℕ) → n ≤ k → Law n (read n) (read k) (plain marks (λ k. k ≡ None) begins)
  whole_law n k h = plain_law (pair_law (law n k h) finish_law (λ x k h. subst closes (sym h) stops)) (λ c. c.0) (record {
    made = λ t. record { of = (t, tt); is = refl };
    marks = λ c. sym (append-nil (marks c.0));
    view = λ x. tt;
    tag = λ c. refl;
    closes = λ k h. h;
    begins = λ F k h. h;
  }) (read n) (read k) (in_pair n) (in_pair k)

  whole_ends : (n : ℕ) (i : Input) (t : T) (j : Input) → read n i ≡ Ok (t, j) → kind j ≡ None
  whole_ends n i t j h =
      let w = bind_ok (text n i) (λ t. gm.finish >>= (λ u. pure t)) t j (sym (is n i) ∙ h) in
      let v = bind_ok (gm.finish w.mid) (λ (u : Unit {0}). pure w.value) t j w.second in
      subst (λ x. kind x ≡ None) (ap (λ c. c.1) (ok_one v.second)) (finish_ok w.mid (kind w.mid) refl v.value v.mid v.first).1
