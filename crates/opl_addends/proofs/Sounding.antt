-- What the addends of a sound comparison are like, and which variables they mention.
use Rattle.std.proofs.Common.{◌≡◌, ◌∙◌, ℕ, ◌+◌, Bool, true, false, cond, not, ◌||◌, refl, List, [], ◌∷◌, ◌++◌, ℤ, ap, sym, subst, arith}
use Rattle.opl_expr.specs.declared.forms.Op.{Op}
use Rattle.opl_expr.specs.declared.forms.Op.TheVariants.{Eq, Ne, Lt, Le, Gt, Ge}
use Rattle.opl_expr.specs.Forms.{Term, Terms, compared}
use Rattle.opl_expr.specs.Sound.{IsSmall, IsSoundTerm, AreSoundTerms, IsSoundFact, term_magnitude, sum_magnitude}
use Rattle.opl_expr.proofs.Parts.{sound_compared}
use Rattle.opl_filter.specs.Mentions.{term_mentions, terms_mention, mentions}
use Rattle.opl_addends.specs.Addends.{addends, all_addends, addends_between, magnitudes, AreSound, CanAdd, mentioning}
use Rattle.opl_addends.specs.Demands.{addends_of}
use Rattle.opl_addends.proofs.Intervals.{append_again, append_nothing}

module _ (sets : List (ℤ × ℤ)) where
  mutual
    sound_addends : (o : Bool) (t : Term) (ss : List (Bool × Term)) → IsSoundTerm sets t → AreSound sets ss → AreSound sets (addends o t ++ ss)
    sound_addends o (Term.const k) ss s h = (s, h)
    sound_addends o (Term.var y) ss s h = (s, h)
    sound_addends o (Term.sum ts) ss s h = all_sound o ts ss s.1 h
    sound_addends o (Term.neg t) ss s h = sound_addends (not o) t ss s.1 h
    sound_addends o (Term.scale k t) ss s h = (s, h)
    sound_addends o (Term.mul a b) ss s h = (s, h)
    sound_addends o (Term.div a b) ss s h = (s, h)
    sound_addends o (Term.rem a b) ss s h = (s, h)
    sound_addends o (Term.abs t) ss s h = (s, h)
    sound_addends o (Term.least ts) ss s h = (s, h)
    sound_addends o (Term.greatest ts) ss s h = (s, h)
    sound_addends o (Term.at table ts) ss s h = (s, h)
    sound_addends o (Term.truth c) ss s h = (s, h)
    sound_addends o (Term.asked ask y) ss s h = absurd s

    all_sound : (o : Bool) (ts : Terms) (ss : List (Bool × Term)) → AreSoundTerms sets ts → AreSound sets ss → AreSound sets (all_addends o ts ++ ss)
    all_sound o Terms.no_terms ss s h = h
    all_sound o (Terms.more_terms t ts) ss s h =
        subst (AreSound sets) (sym (append_again (addends o t) (all_addends o ts) ss)) (sound_addends o t (all_addends o ts ++ ss) s.0 (all_sound o ts ss s.1 h))

  mutual
    sizes : (o : Bool) (t : Term) (ss : List (Bool × Term)) → magnitudes sets (addends o t ++ ss) ≡ term_magnitude sets t + magnitudes sets ss
    sizes o (Term.const k) ss = refl
    sizes o (Term.var y) ss = refl
    sizes o (Term.sum ts) ss = all_sizes o ts ss
    sizes o (Term.neg t) ss = sizes (not o) t ss
    sizes o (Term.scale k t) ss = refl
    sizes o (Term.mul a b) ss = refl
    sizes o (Term.div a b) ss = refl
    sizes o (Term.rem a b) ss = refl
    sizes o (Term.abs t) ss = refl
    sizes o (Term.least ts) ss = refl
    sizes o (Term.greatest ts) ss = refl
    sizes o (Term.at table ts) ss = refl
    sizes o (Term.truth c) ss = refl
    sizes o (Term.asked ask y) ss = refl

    all_sizes : (o : Bool) (ts : Terms) (ss : List (Bool × Term)) → magnitudes sets (all_addends o ts ++ ss) ≡ sum_magnitude sets ts + magnitudes sets ss
    all_sizes o Terms.no_terms ss = omega arith
    all_sizes o (Terms.more_terms t ts) ss = omega (arith, ap (magnitudes sets) (append_again (addends o t) (all_addends o ts) ss), sizes o t (all_addends o ts ++ ss), all_sizes o ts ss)

  between_can_add : (a b : Term) → IsSoundTerm sets a → IsSoundTerm sets b → IsSmall (term_magnitude sets a + term_magnitude sets b) → CanAdd sets (addends_between a b)
  between_can_add a b s t h =
      let r : AreSound sets (addends true b) = subst (AreSound sets) (append_nothing (addends true b)) (sound_addends true b [] t tt) in
      let k : magnitudes sets (addends true b) ≡ term_magnitude sets b + 0 = ap (magnitudes sets) (sym (append_nothing (addends true b))) ∙ sizes true b [] in
      record { sound = sound_addends false a (addends true b) s r; small = omega (arith, h, k, sizes false a (addends true b)) }

  pub compared_can_add : (op : Op) (a b : Term) → IsSoundFact sets (compared op a b) → CanAdd sets (addends_of op a b)
  compared_can_add Eq a b s = let p = sound_compared sets Eq a b s in between_can_add a b p.first p.second p.small
  compared_can_add Ne a b s = let p = sound_compared sets Ne a b s in between_can_add a b p.first p.second p.small
  compared_can_add Lt a b s = let p = sound_compared sets Lt a b s in between_can_add a b p.first p.second p.small
  compared_can_add Le a b s = let p = sound_compared sets Le a b s in between_can_add a b p.first p.second p.small
  compared_can_add Gt a b s = let p = sound_compared sets Gt a b s in between_can_add b a p.second p.first (omega (arith, p.small))
  compared_can_add Ge a b s = let p = sound_compared sets Ge a b s in between_can_add b a p.second p.first (omega (arith, p.small))

-- ---- variables

neither : (a b : Bool) → (a || b) ≡ false → (a ≡ false) × (b ≡ false)
neither true b h = cc
neither false b h = (refl, h)

module _ (x : ℕ) where
  past : (a : Bool × Term) (ss : List (Bool × Term)) → term_mentions a.1 x ≡ false → mentioning x (a ∷ ss) ≡ mentioning x ss
  past a ss h = ap (λ b. cond b (a ∷ mentioning x ss) (mentioning x ss)) h

  mutual
    none_mentions : (o : Bool) (t : Term) (ss : List (Bool × Term)) → term_mentions t x ≡ false → mentioning x (addends o t ++ ss) ≡ mentioning x ss
    none_mentions o (Term.const k) ss h = past (o, Term.const k) ss h
    none_mentions o (Term.var y) ss h = past (o, Term.var y) ss h
    none_mentions o (Term.sum ts) ss h = none_of o ts ss h
    none_mentions o (Term.neg t) ss h = none_mentions (not o) t ss h
    none_mentions o (Term.scale k t) ss h = past (o, Term.scale k t) ss h
    none_mentions o (Term.mul a b) ss h = past (o, Term.mul a b) ss h
    none_mentions o (Term.div a b) ss h = past (o, Term.div a b) ss h
    none_mentions o (Term.rem a b) ss h = past (o, Term.rem a b) ss h
    none_mentions o (Term.abs t) ss h = past (o, Term.abs t) ss h
    none_mentions o (Term.least ts) ss h = past (o, Term.least ts) ss h
    none_mentions o (Term.greatest ts) ss h = past (o, Term.greatest ts) ss h
    none_mentions o (Term.at table ts) ss h = past (o, Term.at table ts) ss h
    none_mentions o (Term.truth c) ss h = past (o, Term.truth c) ss h
    none_mentions o (Term.asked ask y) ss h = past (o, Term.asked ask y) ss h

    none_of : (o : Bool) (ts : Terms) (ss : List (Bool × Term)) → terms_mention ts x ≡ false → mentioning x (all_addends o ts ++ ss) ≡ mentioning x ss
    none_of o Terms.no_terms ss h = refl
    none_of o (Terms.more_terms t ts) ss h =
        let n = neither (term_mentions t x) (terms_mention ts x) h in
        ap (mentioning x) (append_again (addends o t) (all_addends o ts) ss) ∙ none_mentions o t (all_addends o ts ++ ss) n.0 ∙ none_of o ts ss n.1

  between_mentions : (a b : Term) → (term_mentions a x || term_mentions b x) ≡ false → mentioning x (addends_between a b) ≡ []
  between_mentions a b h =
      let n = neither (term_mentions a x) (term_mentions b x) h in
      none_mentions false a (addends true b) n.0 ∙ ap (mentioning x) (sym (append_nothing (addends true b))) ∙ none_mentions true b [] n.1

  or_turned : (a b : Bool) → (a || b) ≡ false → (b || a) ≡ false
  or_turned true b h = cc
  or_turned false true h = cc
  or_turned false false h = refl

  pub compared_mentions : (op : Op) (a b : Term) → mentions (compared op a b) x ≡ false → mentioning x (addends_of op a b) ≡ []
  compared_mentions Eq a b h = between_mentions a b h
  compared_mentions Ne a b h = between_mentions a b h
  compared_mentions Lt a b h = between_mentions a b h
  compared_mentions Le a b h = between_mentions a b h
  compared_mentions Gt a b h = between_mentions b a h
  compared_mentions Ge a b h = between_mentions b a h
