-- A constraint of a search section is sound once its questions are answered.
use Rattle.std.proofs.Common.{◌≡◌, ℕ, suc, ◌*◌, ◌<◌, ◌≤◌, max, true, List, [], ◌∷◌, length, ℤ, pos, ◌≤ℤ◌, ◌+ℤ◌, sym, ◌∙◌, subst, arith, refl}
use Rattle.std.specs.Prelude.{Some, None, unsigned_abs, slice_index_or, int_le, Bool, false, cond}
use Rattle.std.proofs.Math.Nat.{mul-le-mul, mul-le-mul_left}
use Rattle.std.proofs.lemmas.Int.{ints}
use Rattle.std.proofs.lemmas.List.{length-map}
use Rattle.opl_domain.specs.Span.{values, span_size}
use Rattle.opl_domain.specs.Family.{Family, IsFamily, IsRising, Below, set_of, has, member}
use Rattle.opl_expr.specs.declared.forms.Ask.{Ask}
use Rattle.opl_expr.specs.declared.forms.Ask.TheVariants.{Size, Least, Greatest}
use Rattle.opl_expr.specs.Forms.{Term, Terms, Fact, Facts, product}
use Rattle.opl_expr.specs.Sound.{IsSmall, IsSome, set_magnitude, var_magnitude, term_magnitude, sum_magnitude, greatest_magnitude, FitDimensions, AreComparable, IsSoundTerm, AreSoundTerms, IsSoundFact, AreSoundFacts}
use Rattle.opl_expr.proofs.Parts.{product_cases}
use Rattle.opl_trace.specs.Answers.{answer, answered_term, answered_terms, answered, all_answered}
use Rattle.opl_expr.specs.declared.model.Core.{Core}
use Rattle.opl_expr.specs.Solutions.{declared}
use Rattle.opl_domain.proofs.Members.{member_first, member_later, from_values, count_is}
use Rattle.opl_domain.proofs.Sets.{hull_made, first_is_least, last_is_greatest}
use Rattle.opl_choices.proofs.AnswerParts.{some_values}
use Rattle.std.proofs.Common.{zero, ◌-◌, map, get_or, neg_ℤ}
use Rattle.opl_trace.specs.Questions.{ask_magnitude, open_magnitude, open_sum, open_greatest, FitOpen, AreOpenComparable, IsOpenTerm, AreOpenTerms, IsOpenFact, AreOpenFacts}

-- no answer is greater than the magnitude of its question
pub record AreBounded (sets : List (ℤ × ℤ)) (F : Family) : Type 0 where
  pub bound : (ask : Ask) (x : ℕ) → x < length sets → unsigned_abs (answer F ask x) ≤ ask_magnitude sets ask x

-- what is known of the answer to a sound expression
record IsAnswer (sets : List (ℤ × ℤ)) (t : Term) (n : ℕ) : Type 0 where
  sound : IsSoundTerm sets t
  small : term_magnitude sets t ≤ n

scaled_answer : (sets : List (ℤ × ℤ)) (k : ℤ) (t : Term) (m n : ℕ) → IsSmall (m * n) → IsAnswer sets (Term.const k) m → IsAnswer sets t n → IsAnswer sets (Term.scale k t) (m * n)
scaled_answer sets k t m n s a b = record {
  sound = (omega (arith, s, mul-le-mul a.small b.small), a.sound, b.sound);
  small = mul-le-mul a.small b.small;
}

product_answer : (sets : List (ℤ × ℤ)) (s t : Term) → (m n : ℕ) → IsSmall (m * n) → IsAnswer sets s m → IsAnswer sets t n → IsAnswer sets (product s t) (max 1 (m * n))
product_answer sets = product_cases (λ s t p. (m n : ℕ) → IsSmall (m * n) → IsAnswer sets s m → IsAnswer sets t n → IsAnswer sets p (max 1 (m * n)))
    (λ k t m n s a b. let r = scaled_answer sets k t m n s a b in record { sound = r.sound; small = omega (arith, r.small) })
    (λ t k m n s a b. let r = scaled_answer sets k t n m (omega (arith, s)) b a in record { sound = r.sound; small = omega (arith, r.small) })
    (λ s t m n h a b. record { sound = (omega (arith, h, mul-le-mul a.small b.small), a.sound, b.sound); small = omega (arith, mul-le-mul a.small b.small) })

some_answers : (sets : List (ℤ × ℤ)) (F : Family) (ts : Terms) → IsSome sets ts → IsSome sets (answered_terms F ts)
some_answers sets F Terms.no_terms s = absurd s
some_answers sets F (Terms.more_terms t ts) s = tt

module _ (sets : List (ℤ × ℤ)) (F : Family) (bounded : AreBounded sets F) where
  mutual
    term_answer : (t : Term) → IsOpenTerm sets t → IsAnswer sets (answered_term F t) (open_magnitude sets t)
    term_answer (Term.const k) s = record { sound = s; small = omega arith }
    term_answer (Term.var x) s = record { sound = s; small = omega arith }
    term_answer (Term.sum ts) s = let m = sum_answers ts s.1 in record { sound = (omega (arith, s.0, m), terms_sound ts s.1); small = m }
    term_answer (Term.neg t) s = let a = term_answer t s.1 in record { sound = (omega (arith, s.0, a.small), a.sound); small = a.small }
    term_answer (Term.scale k t) s =
        let a = term_answer t s.2 in
        let m = mul-le-mul_left (unsigned_abs k) a.small in
        record { sound = (omega (arith, s.0, m), s.1, a.sound); small = m }
    term_answer (Term.mul r t) s = product_answer sets (answered_term F r) (answered_term F t) (open_magnitude sets r) (open_magnitude sets t) s.0 (term_answer r s.1) (term_answer t s.2)
    term_answer (Term.div r t) s = let a = term_answer r s.0 in let b = term_answer t s.1 in record { sound = (a.sound, b.sound); small = omega (arith, a.small) }
    term_answer (Term.rem r t) s = let a = term_answer r s.0 in let b = term_answer t s.1 in record { sound = (a.sound, b.sound); small = omega (arith, a.small) }
    term_answer (Term.abs t) s = let a = term_answer t s in record { sound = a.sound; small = omega (arith, a.small) }
    term_answer (Term.least ts) s = record { sound = (some_answers sets F ts s.0, terms_sound ts s.1); small = omega (arith, greatest_answers ts s.1) }
    term_answer (Term.greatest ts) s = record { sound = (some_answers sets F ts s.0, terms_sound ts s.1); small = omega (arith, greatest_answers ts s.1) }
    term_answer (Term.at None ts) s = absurd s.1
    term_answer (Term.at (Some t) ts) s = record { sound = (s.0, s.1, fit_dimensions t.dims ts s.2 s.3, terms_sound ts s.3); small = omega arith }
    term_answer (Term.truth c) s = record { sound = fact_sound c s; small = omega arith }
    term_answer (Term.asked ask x) s = let b = bounded.bound ask x s.1 in record { sound = omega (arith, b, s.0); small = b }

    terms_sound : (ts : Terms) → AreOpenTerms sets ts → AreSoundTerms sets (answered_terms F ts)
    terms_sound Terms.no_terms s = tt
    terms_sound (Terms.more_terms t ts) s = let a = term_answer t s.0 in (a.sound, terms_sound ts s.1)

    sum_answers : (ts : Terms) → AreOpenTerms sets ts → sum_magnitude sets (answered_terms F ts) ≤ open_sum sets ts
    sum_answers Terms.no_terms s = omega arith
    sum_answers (Terms.more_terms t ts) s = let a = term_answer t s.0 in omega (arith, a.small, sum_answers ts s.1)

    greatest_answers : (ts : Terms) → AreOpenTerms sets ts → greatest_magnitude sets (answered_terms F ts) ≤ open_greatest sets ts
    greatest_answers Terms.no_terms s = omega arith
    greatest_answers (Terms.more_terms t ts) s = let a = term_answer t s.0 in omega (arith, a.small, greatest_answers ts s.1)

    comparable_answers : (ts : Terms) → AreOpenComparable sets ts → AreOpenTerms sets ts → AreComparable sets (answered_terms F ts)
    comparable_answers Terms.no_terms f s = tt
    comparable_answers (Terms.more_terms t ts) f s = let a = term_answer t s.0 in (omega (arith, a.small, greatest_answers ts s.1, f.0), comparable_answers ts f.1 s.1)

    fit_dimensions : (dims : List (List ℤ)) (ts : Terms) → FitOpen sets dims ts → AreOpenTerms sets ts → FitDimensions sets dims (answered_terms F ts)
    fit_dimensions [] Terms.no_terms f s = tt
    fit_dimensions [] (Terms.more_terms t ts) f s = absurd f
    fit_dimensions (dim ∷ dims) Terms.no_terms f s = absurd f
    fit_dimensions (dim ∷ dims) (Terms.more_terms t ts) f s = let a = term_answer t s.0 in (omega (arith, a.small, f.0), fit_dimensions dims ts f.1 s.1)

    pub fact_sound : (c : Fact) → IsOpenFact sets c → IsSoundFact sets (answered F c)
    fact_sound (Fact.fixed b) s = tt
    fact_sound (Fact.cmp rel r t) s = let a = term_answer r s.1 in let b = term_answer t s.2 in (omega (arith, s.0, a.small, b.small), a.sound, b.sound)
    fact_sound (Fact.and cs) s = facts_sound cs s
    fact_sound (Fact.or cs) s = facts_sound cs s
    fact_sound (Fact.iff c d) s = (fact_sound c s.0, fact_sound d s.1)
    fact_sound (Fact.not c) s = fact_sound c s
    fact_sound (Fact.different ts) s = (comparable_answers ts s.0 s.1, terms_sound ts s.1)
    fact_sound (Fact.bound x) s = tt

    facts_sound : (cs : Facts) → AreOpenFacts sets cs → AreSoundFacts sets (all_answered F cs)
    facts_sound Facts.no_facts s = tt
    facts_sound (Facts.more_facts c cs) s = (fact_sound c s.0, facts_sound cs s.1)

  pub term_sound : (t : Term) → IsOpenTerm sets t → IsSoundTerm sets (answered_term F t)
  term_sound t s = let a = term_answer t s in a.sound

-- ---- what bounds answers

-- rising numbers between two ends are no more than there are numbers between them
rising_few : (xs : List ℤ) (l h : ℤ) → IsRising xs → ((v : ℤ) → member v xs ≡ true → (l ≤ℤ v) × (v ≤ℤ h)) → length xs ≤ span_size (record { low = l; high = h })
rising_few [] l h r b = omega arith
rising_few (v ∷ xs) l h r b =
    let e = b v (member_first v xs) in
    let k = rising_few xs (v +ℤ pos 1) h r.1 (λ w m. (let u = r.0 w m in omega (arith, ints), (b w (member_later w v xs m)).1)) in
    fewer l h v (length xs) e.0 e.1 k
  where
    fewer : (l h v : ℤ) (n : ℕ) → l ≤ℤ v → v ≤ℤ h → n ≤ span_size (record { low = v +ℤ pos 1; high = h }) → suc n ≤ span_size (record { low = l; high = h })
    fewer l h v n i j k =
        let a = count_is (h +ℤ pos 1 +ℤ neg_ℤ (v +ℤ pos 1)) (omega (arith, ints)) in
        let b = count_is (h +ℤ pos 1 +ℤ neg_ℤ l) (omega (arith, ints)) in
        omega (arith, ints, a, b)

-- a value of a declared set is within the set's magnitude
within_set : (p : ℤ × ℤ) (v : ℤ) (sets : List (ℤ × ℤ)) → member v (values (record { low = p.0; high = p.1 })) ≡ true → unsigned_abs v ≤ set_magnitude sets p
within_set p v sets m =
    let w = from_values (record { low = p.0; high = p.1 }) v m in
    elim (int_le p.0 p.1) as (λ b. int_le p.0 p.1 ≡ b → unsigned_abs v ≤ cond b (max 1 (max (unsigned_abs p.0) (unsigned_abs p.1))) 1) [
      | true ↦ λ e. omega (arith, ints, w.least, w.most)
      | false ↦ λ e. let l = w.least in let h = w.most in absurd (not_ordered p.0 p.1 e (omega (arith, ints)))
    ] refl
  where
    not_ordered : (l h : ℤ) → int_le l h ≡ false → l ≤ℤ h → ⊥
    not_ordered l h e o = grind (arith, ints)

set_at : (ps : List (ℤ × ℤ)) (x : ℕ) → x < length ps → let p = slice_index_or ps x (pos 0, pos 0) in set_of (map (λ q. values (record { low = q.0; high = q.1 })) ps) x ≡ values (record { low = p.0; high = p.1 })
unfolding set_of
set_at [] x h = absurd (omega arith)
set_at (p ∷ ps) zero h = refl
set_at (p ∷ ps) (suc x) h = set_at ps x (omega arith)

module _ (core : Core) (F : Family) (f : IsFamily F) (b : Below F (declared core)) where
  -- a value of a variable is one of its declared set
  pub declared_at : (x : ℕ) (v : ℤ) → x < length core.sets → has F x v ≡ true → let p = slice_index_or core.sets x (pos 0, pos 0) in member v (values (record { low = p.0; high = p.1 })) ≡ true
  unfolding declared
  declared_at x v h m = subst (λ vs. member v vs ≡ true) (set_at core.sets x h) (b.sub x v m)

  pub small_value : (x : ℕ) (v : ℤ) → x < length core.sets → has F x v ≡ true → unsigned_abs v ≤ var_magnitude core.sets x
  small_value x v h m = within_set (slice_index_or core.sets x (pos 0, pos 0)) v core.sets (declared_at x v h m)

  pub same_length : length F ≡ length core.sets
  unfolding declared
  same_length = b.same ∙ length-map core.sets (λ q. values (record { low = q.0; high = q.1 }))

  answer_bound : (ask : Ask) (x : ℕ) → x < length core.sets → unsigned_abs (answer F ask x) ≤ ask_magnitude core.sets ask x
  answer_bound Size x h =
      let p = slice_index_or core.sets x (pos 0, pos 0) in
      let n = rising_few (set_of F x) p.0 p.1 (f.rising x) (λ v m. let w = from_values (record { low = p.0; high = p.1 }) v (declared_at x v h m) in (w.least, w.most)) in
      omega (arith, n)
  answer_bound Least x h =
      let l : x < length F = omega (arith, same_length) in
      let n = some_values F x f l in
      let a = first_is_least (set_of F x) (f.rising x) n in
      let e = hull_made F x (get_or (set_of F x) 0 (pos 0)) (get_or (set_of F x) (length (set_of F x) - 1) (pos 0)) a (last_is_greatest (set_of F x) (f.rising x) n) in
      subst (λ s. unsigned_abs s.low ≤ var_magnitude core.sets x) (sym e) (small_value x (get_or (set_of F x) 0 (pos 0)) h a.among)
  answer_bound Greatest x h =
      let l : x < length F = omega (arith, same_length) in
      let n = some_values F x f l in
      let a = last_is_greatest (set_of F x) (f.rising x) n in
      let e = hull_made F x (get_or (set_of F x) 0 (pos 0)) (get_or (set_of F x) (length (set_of F x) - 1) (pos 0)) (first_is_least (set_of F x) (f.rising x) n) a in
      subst (λ s. unsigned_abs s.high ≤ var_magnitude core.sets x) (sym e) (small_value x (get_or (set_of F x) (length (set_of F x) - 1) (pos 0)) h a.among)

  pub are_bounded : AreBounded core.sets F
  are_bounded = record { bound = answer_bound }
