-- The parts that are made for constraints.
use Rattle.std.proofs.Common.{◌≡◌, ◌∙◌, ℕ, zero, suc, ◌+◌, ◌<◌, ◌≤◌, Bool, true, false, cond, not, refl, List, [], ◌∷◌, ◌++◌, map, length, get_or, take, ap, sym, subst, arith, Ok, Err}
use Rattle.std.specs.Prelude.{Option, Some, None, IfOk}
use Rattle.std.specs.declared.result.Result.{Result}
use Rattle.std.proofs.Math.Path.{fun_ext}
use Rattle.opl_domain.specs.Arithmetic.{span_max}
use Rattle.opl_domain.specs.Family.{Family}
use Rattle.opl_expr.specs.declared.model.Core.{Core}
use Rattle.opl_expr.specs.declared.forms.Op.{Op}
use Rattle.opl_expr.specs.declared.forms.Op.TheVariants.{Eq, Ne, Lt, Le, Gt, Ge}
use Rattle.opl_expr.specs.declared.forms.Expr.{Expr}
use Rattle.opl_expr.specs.declared.forms.Cons.{Cons}
use Rattle.opl_expr.specs.declared.forms.Cons.TheVariants as C
use Rattle.opl_expr.specs.Forms.{Term, Fact, fact, facts_of, compared}
use Rattle.opl_expr.specs.Options.{lift}
use Rattle.opl_expr.specs.Range.{pure, is_possible, fact_range}
use Rattle.opl_expr.specs.Sound.{IsSoundFact, AreSoundFacts}
use Rattle.opl_expr.proofs.Plain.{fact_Cmp, fact_Or, fact_Imp, fact_Not}
use Rattle.opl_filter.specs.Mentions.{AreVariables}
use Rattle.opl_filter.specs.Filtering.{refutes}
use Rattle.opl_range.specs.Between.{term_of}
use Rattle.opl_linear_filter.specs.declared.linear_filter.LinearFilter.{LinearFilter}
use Rattle.opl_linear_filter.specs.LinearForms.{IsFilterOf, IsFilterIfAny, ComparesLinear, IsThereFor}
use Rattle.opl_reify.specs.declared.part.Part.{Part}
use Rattle.opl_reify.specs.declared.reify_filter.ReifyFilter.{ReifyFilter}
use Rattle.opl_reify.specs.Parts.{opposite_of, signed, signed_op, fact_in, AreParts, any_of, IsPartOf, IsPartIfAny, AddsPartIfAny, ArePartsOf, ArePartsIfAny}
use Rattle.opl_reify.specs.Literals.{IsLiteral, AreLiterals, SidesIfAny, IsLiteralIf, IsLiteralIfAny, AreLiteralsIfAny}
use Rattle.opl_reify.specs.Disjunctions.{IsDisjunction, IsDisjunctionFor}
use Rattle.opl_reify.proofs.Negation.{opposite_range, signed_not}
use Rattle.opl_reify.proofs.Shapes.{kind_of, kind_Cmp, kind_Not, same_sides, no_opposite, an_opposite, a_disjunction, an_implication}

-- ---- what two clauses say of a result together

pub ok_both : {A E : Type 0} (r : Result A E) (P Q R : A → Type 0) → ((a : A) → P a → Q a → R a) → IfOk r P → IfOk r Q → IfOk r R
ok_both (Ok a) P Q R h p q = h a p q
ok_both (Err e) P Q R h p q = p

-- ---- one comparison

fact_is : (core : Core) (c : Cons) (op : Op) (a b : Expr) → c ≡ C.Cmp op a b → fact core.tables core.resources c ≡ compared op (term_of core a) (term_of core b)
fact_is core c op a b e = ap (fact core.tables core.resources) e ∙ fact_Cmp core.tables core.resources op a b

pub comparison_sound : (core : Core) (c : Cons) (op : Op) (a b : Expr) → c ≡ C.Cmp op a b → IsSoundFact core.sets (compared op (term_of core a) (term_of core b)) → IsSoundFact core.sets (fact core.tables core.resources c)
comparison_sound core c op a b e s = subst (IsSoundFact core.sets) (sym (fact_is core c op a b e)) s

part_made : (core : Core) (c : Cons) (op : Op) (a b : Expr) (p : Part) → c ≡ C.Cmp op a b → p.constraint ≡ c → IsSoundFact core.sets (compared op (term_of core a) (term_of core b))
    → AreVariables p.variables (fact core.tables core.resources c) → IsFilterOf core (fact core.tables core.resources c) p.filter → IsPartOf core (compared op (term_of core a) (term_of core b)) p
part_made core c op a b p e i s v f =
    let g : fact_in core p ≡ fact core.tables core.resources c = ap (fact core.tables core.resources) i in
    record {
      part = record {
        sound = subst (IsSoundFact core.sets) (sym g) (comparison_sound core c op a b e s);
        named = subst (AreVariables p.variables) (sym g) v;
        filter = subst (λ d. IsFilterOf core d p.filter) (sym g) f;
      };
      same = λ F. ap (fact_range F) (sym (g ∙ fact_is core c op a b e));
    }

-- the same, by what was read of the constraint
pub part_read : (core : Core) (k v w : Cons) (op : Op) (a b : Expr) (p : Part) (x : Option LinearFilter) → k ≡ C.Cmp op a b → p.constraint ≡ k → v ≡ k → w ≡ k → IsSoundFact core.sets (compared op (term_of core a) (term_of core b))
    → AreVariables p.variables (fact core.tables core.resources v) → IsFilterIfAny core (fact core.tables core.resources w) x → x ≡ Some p.filter → IsPartOf core (compared op (term_of core a) (term_of core b)) p
part_read core k v w op a b p x e i g h s n f j =
    part_made core k op a b p e i s (subst (λ z. AreVariables p.variables (fact core.tables core.resources z)) g n)
    (subst (λ z. IsFilterOf core (fact core.tables core.resources z) p.filter) h (subst (IsFilterIfAny core (fact core.tables core.resources w)) j f))

sides_are : (core : Core) (c : Cons) (op : Op) (a b : Expr) → c ≡ C.Cmp op a b → ComparesLinear core c → (pure (term_of core a) ≡ true) × (pure (term_of core b) ≡ true)
sides_are core c op a b e m =
    let s = same_sides op m.op a b m.left m.right (sym e ∙ m.is) in
    (ap (λ z. pure (term_of core z)) s.0 ∙ m.first, ap (λ z. pure (term_of core z)) s.1 ∙ m.second)

pub sides_read : (core : Core) (w : Cons) (op : Op) (a b : Expr) (x : Option LinearFilter) (f : LinearFilter) → w ≡ C.Cmp op a b → IsThereFor core w x → x ≡ Some f → (pure (term_of core a) ≡ true) × (pure (term_of core b) ≡ true)
sides_read core w op a b x f e t j = sides_are core w op a b e (subst (IsThereFor core w) j t)

-- ---- a literal

opposite_sound : (core : Core) (op : Op) (a b : Term) → IsSoundFact core.sets (compared op a b) → IsSoundFact core.sets (compared (opposite_of op) a b)
opposite_sound core Eq a b s = s
opposite_sound core Ne a b s = s
opposite_sound core Lt a b s = (omega (arith, s.0), s.2, s.1)
opposite_sound core Le a b s = (omega (arith, s.0), s.2, s.1)
opposite_sound core Gt a b s = (omega (arith, s.0), s.2, s.1)
opposite_sound core Ge a b s = (omega (arith, s.0), s.2, s.1)

signed_sound : (core : Core) (o : Bool) (op : Op) (a b : Term) → IsSoundFact core.sets (compared op a b) → IsSoundFact core.sets (compared (signed_op o op) a b)
signed_sound core true op a b s = opposite_sound core op a b s
signed_sound core false op a b s = s

pub sides_sound : (core : Core) (c : Cons) (o : Bool) (op r : Op) (a b p q : Expr) → c ≡ C.Cmp op a b → r ≡ signed_op o op → p ≡ a → q ≡ b → IsSoundFact core.sets (fact core.tables core.resources c)
    → IsSoundFact core.sets (compared r (term_of core p) (term_of core q))
sides_sound core c o op r a b p q e h i j s =
    let t = signed_sound core o op (term_of core a) (term_of core b) (subst (IsSoundFact core.sets) (fact_is core c op a b e) s) in
    subst (λ z. IsSoundFact core.sets (compared r (term_of core z) (term_of core q))) (sym i)
    (subst (λ z. IsSoundFact core.sets (compared r (term_of core a) (term_of core z))) (sym j) (subst (λ z. IsSoundFact core.sets (compared z (term_of core a) (term_of core b))) (sym h) t))

signed_range : (F : Family) (o : Bool) (op : Op) (a b : Term) → pure a ≡ true → pure b ≡ true → fact_range F (signed o (compared op a b)) ≡ fact_range F (compared (signed_op o op) a b)
signed_range F true op a b p q = opposite_range F op a b p q
signed_range F false op a b p q = refl

pub comparison_literal : (core : Core) (c : Cons) (o : Bool) (op r : Op) (a b p q : Expr) → c ≡ C.Cmp op a b → r ≡ signed_op o op → p ≡ a → q ≡ b → (x : Option Part) → IsPartIfAny core (compared r (term_of core p) (term_of core q)) x
    → SidesIfAny core p q x → IsPartIfAny core (signed o (fact core.tables core.resources c)) x
comparison_literal core c o op r a b p q e h i j None y s = tt
comparison_literal core c o op r a b p q e h i j (Some x) y s =
    let first = ap (λ z. pure (term_of core z)) (sym i) ∙ s.0 in
    let second = ap (λ z. pure (term_of core z)) (sym j) ∙ s.1 in
    record {
      part = y.part;
      same = λ F.
          ap (λ d. fact_range F (signed o d)) (fact_is core c op a b e) ∙ signed_range F o op (term_of core a) (term_of core b) first second
          ∙ ap (λ z. fact_range F (compared z (term_of core a) (term_of core b))) (sym h)
          ∙ ap (λ z. fact_range F (compared r (term_of core z) (term_of core b))) (sym i) ∙ ap (λ z. fact_range F (compared r (term_of core p) (term_of core z))) (sym j)
          ∙ y.same F;
    }

pub comparison_kind : (core : Core) (c : Cons) (op : Op) (a b p q : Expr) → c ≡ C.Cmp op a b → p ≡ a → q ≡ b → (x : Option Part) → SidesIfAny core p q x → IsLiteralIfAny core c x
comparison_kind core c op a b p q e i j None s = none
  where
    none : (n : ℕ) → IsLiteral core n c → ⊥
    none zero m =
        let t = sides_are core c op a b e m in
        s (ap (λ z. pure (term_of core z)) i ∙ t.0) (ap (λ z. pure (term_of core z)) j ∙ t.1)
    none (suc n) l = let k = sym (kind_Cmp op a b) ∙ ap kind_of (sym e ∙ l.1) ∙ kind_Not l.0 in absurd (omega (arith, k))
comparison_kind core c op a b p q e i j (Some x) s =
    (zero, record { op = op; left = a; right = b; is = e; first = ap (λ z. pure (term_of core z)) (sym i) ∙ s.0; second = ap (λ z. pure (term_of core z)) (sym j) ∙ s.1 })

negated_is : (core : Core) (c a p : Cons) → c ≡ C.Not a → p ≡ a → fact core.tables core.resources c ≡ Fact.not (fact core.tables core.resources p)
negated_is core c a p e i = ap (fact core.tables core.resources) e ∙ fact_Not core.tables core.resources a ∙ ap (λ z. Fact.not (fact core.tables core.resources z)) (sym i)

pub negated_sound : (core : Core) (c a p : Cons) → c ≡ C.Not a → p ≡ a → IsSoundFact core.sets (fact core.tables core.resources c) → IsSoundFact core.sets (fact core.tables core.resources p)
negated_sound core c a p e i s = subst (IsSoundFact core.sets) (negated_is core c a p e i) s

pub negated_literal : (core : Core) (c a p : Cons) (o t : Bool) → c ≡ C.Not a → p ≡ a → t ≡ not o → (x : Option Part) → IsPartIfAny core (signed t (fact core.tables core.resources p)) x → IsPartIfAny core (signed o (fact core.tables core.resources c)) x
negated_literal core c a p o t e i h None y = tt
negated_literal core c a p o t e i h (Some x) y = record {
  part = y.part;
  same = λ F. ap (λ d. fact_range F (signed o d)) (negated_is core c a p e i) ∙ signed_not F o (fact core.tables core.resources p) ∙ ap (λ b. fact_range F (signed b (fact core.tables core.resources p))) (sym h) ∙ y.same F;
}

pub negated_kind : (core : Core) (c a p : Cons) → c ≡ C.Not a → p ≡ a → (x : Option Part) → IsLiteralIfAny core p x → IsLiteralIfAny core c x
negated_kind core c a p e i None h = no_opposite core c a p e i h
negated_kind core c a p e i (Some x) h = an_opposite core c a p e i h.0 h.1

-- ---- parts one after another

more_parts : (core : Core) (cs : List Fact) (ps : List Part) (c : Fact) (p : Part) → ArePartsOf core cs ps → IsPartOf core c p → ArePartsOf core (cs ++ c ∷ []) (ps ++ p ∷ [])
more_parts core [] [] c p a i = (i, tt)
more_parts core [] (q ∷ ps) c p a i = absurd a
more_parts core (d ∷ cs) [] c p a i = absurd a
more_parts core (d ∷ cs) (q ∷ ps) c p a i = (a.0, more_parts core cs ps c p a.1 i)

map_more : {A B : Type 0} (f : A → B) (xs : List A) (x : A) → map f (xs ++ x ∷ []) ≡ map f xs ++ f x ∷ []
map_more f [] x = refl
map_more f (y ∷ xs) x = ap (λ ys. f y ∷ ys) (map_more f xs x)

take_more : {A : Type 0} (xs : List A) (i : ℕ) (x : A) → i < length xs → x ≡ get_or xs i x → take (i + 1) xs ≡ take i xs ++ x ∷ []
take_more xs i x l e = let m : i + 1 ≡ suc i = omega arith in ap (λ n. take n xs) m ∙ next xs i x l e
  where
    next : {A : Type 0} (xs : List A) (i : ℕ) (x : A) → i < length xs → x ≡ get_or xs i x → take (suc i) xs ≡ take i xs ++ x ∷ []
    next [] i x l e = absurd (omega arith)
    next (y ∷ xs) zero x l e = ap (λ z. z ∷ []) (sym e)
    next (y ∷ xs) (suc i) x l e = ap (λ ys. y ∷ ys) (next xs i x (omega arith) e)

take_all : {A : Type 0} (xs : List A) (n : ℕ) → length xs ≤ n → take n xs ≡ xs
take_all [] zero h = refl
take_all [] (suc n) h = refl
take_all (x ∷ xs) zero h = absurd (omega arith)
take_all (x ∷ xs) (suc n) h = ap (λ ys. x ∷ ys) (take_all xs n (omega arith))

more_literals : (core : Core) (cs : List Cons) (c : Cons) → AreLiterals core cs → (n : ℕ) × IsLiteral core n c → AreLiterals core (cs ++ c ∷ [])
more_literals core [] c a l = (l, tt)
more_literals core (d ∷ cs) c a l = (a.0, more_literals core cs c a.1 l)

literal_at : (core : Core) (cs : List Cons) (i : ℕ) (c : Cons) → i < length cs → c ≡ get_or cs i c → AreLiterals core cs → (n : ℕ) × IsLiteral core n c
literal_at core [] i c l e a = absurd (omega arith)
literal_at core (d ∷ cs) zero c l e a = subst (λ z. (n : ℕ) × IsLiteral core n z) (sym e) a.0
literal_at core (d ∷ cs) (suc i) c l e a = literal_at core cs i c (omega arith) e a.1

-- the first n constraints have their parts
pub record AreFirstParts (core : Core) (cs : List Cons) (n : ℕ) (ps : List Part) : Type 0 where
  pub parts : ArePartsOf core (map (fact core.tables core.resources) (take n cs)) ps
  pub literals : AreLiterals core (take n cs)

take_none : {A : Type 0} (xs : List A) → [] ≡ take 0 xs
take_none [] = refl
take_none (x ∷ xs) = refl

pub first_parts : (core : Core) (cs : List Cons) (ps : List Part) → ps ≡ [] → AreFirstParts core cs 0 ps
first_parts core cs ps e = record {
  parts = subst (λ qs. ArePartsOf core (map (fact core.tables core.resources) (take 0 cs)) qs) (sym e) (subst (λ ds. ArePartsOf core (map (fact core.tables core.resources) ds) []) (take_none cs) tt);
  literals = subst (AreLiterals core) (take_none cs) tt;
}

pub next_parts : (core : Core) (cs : List Cons) (i : ℕ) (c : Cons) (ps qs : List Part) (b : Bool) → i < length cs → c ≡ get_or cs i c → AreFirstParts core cs i ps → AddsPartIfAny core (signed false (fact core.tables core.resources c)) ps qs b
    → IsLiteralIf core c b → b ≡ true → AreFirstParts core cs (i + 1) qs
next_parts core cs i c ps qs false l e a h k g = cc
next_parts core cs i c ps qs true l e a h k g =
    let t = take_more cs i c l e in
    let f = fact core.tables core.resources in
    record {
      parts = subst (λ ds. ArePartsOf core (map f ds) qs) (sym t) (subst (λ ds. ArePartsOf core ds qs) (sym (map_more f (take i cs) c)) (subst (λ rs. ArePartsOf core (map f (take i cs) ++ f c ∷ []) rs) (sym h.1) (more_parts core (map f (take i cs)) ps (f c) h.0 a.parts h.2)));
      literals = subst (AreLiterals core) (sym t) (more_literals core (take i cs) c a.literals k);
    }

pub no_literals : (core : Core) (cs : List Cons) (i : ℕ) (c : Cons) (b : Bool) → i < length cs → c ≡ get_or cs i c → IsLiteralIf core c b → b ≡ false → AreLiterals core cs → ⊥
no_literals core cs i c true l e h g a = cc
no_literals core cs i c false l e h g a = let m = literal_at core cs i c l e a in h m.0 m.1

pub all_parts : (core : Core) (cs : List Cons) (n : ℕ) (ps : List Part) → length cs ≤ n → AreFirstParts core cs n ps → ArePartsOf core (map (fact core.tables core.resources) cs) ps × AreLiterals core cs
all_parts core cs n ps h a =
    let t = take_all cs n h in
    (subst (λ ds. ArePartsOf core (map (fact core.tables core.resources) ds) ps) t a.parts, subst (AreLiterals core) t a.literals)

pub sound_at : (core : Core) (cs : List Cons) (i : ℕ) (c : Cons) → i < length cs → c ≡ get_or cs i c → AreSoundFacts core.sets (facts_of (map (fact core.tables core.resources) cs)) → IsSoundFact core.sets (fact core.tables core.resources c)
sound_at core [] i c l e s = absurd (omega arith)
sound_at core (d ∷ cs) zero c l e s = subst (λ z. IsSoundFact core.sets (fact core.tables core.resources z)) (sym e) s.0
sound_at core (d ∷ cs) (suc i) c l e s = sound_at core cs i c (omega arith) e s.1

pub added_part : (core : Core) (c : Fact) (p : Part) (ps qs : List Part) (x : Option Part) → IsPartIfAny core c x → x ≡ Some p → qs ≡ ps ++ p ∷ [] → AddsPartIfAny core c ps qs true
added_part core c p ps qs x i h e = (p, e, subst (IsPartIfAny core c) h i)

pub two_parts : (core : Core) (c d : Fact) (ps qs rs : List Part) → ps ≡ [] → AddsPartIfAny core c ps qs true → AddsPartIfAny core d qs rs true → ArePartsOf core (c ∷ d ∷ []) rs
two_parts core c d ps qs rs e h k =
    let i : qs ≡ h.0 ∷ [] = h.1 ∙ ap (λ z. z ++ h.0 ∷ []) e in
    let j : rs ≡ h.0 ∷ k.0 ∷ [] = k.1 ∙ ap (λ z. z ++ k.0 ∷ []) i in
    subst (ArePartsOf core (c ∷ d ∷ [])) (sym j) (h.2, (k.2, tt))

-- ---- the whole

parts_are : (core : Core) (cs : List Fact) (ps : List Part) → ArePartsOf core cs ps → AreParts core ps
parts_are core [] [] a = tt
parts_are core [] (p ∷ ps) a = absurd a
parts_are core (c ∷ cs) [] a = absurd a
parts_are core (c ∷ cs) (p ∷ ps) a = (a.0.part, parts_are core cs ps a.1)

ranges_are : (core : Core) (F : Family) (cs : List Fact) (ps : List Part) → ArePartsOf core cs ps → fact_range F (Fact.or (facts_of cs)) ≡ fact_range F (any_of core ps)
ranges_are core F [] [] a = refl
ranges_are core F [] (p ∷ ps) a = absurd a
ranges_are core F (c ∷ cs) [] a = absurd a
ranges_are core F (c ∷ cs) (p ∷ ps) a =
    ap (λ r. lift span_max r (fact_range F (Fact.or (facts_of cs)))) (a.0.same F) ∙ ap (lift span_max (fact_range F (fact_in core p))) (ranges_are core F cs ps a.1)

filter_made : (core : Core) (c : Fact) (cs : List Fact) (f : ReifyFilter) → c ≡ Fact.or (facts_of cs) → ArePartsOf core cs f.parts → IsDisjunctionFor core c f
filter_made core c cs f e a = record { made = parts_are core cs f.parts a; same = λ F. ap (fact_range F) e ∙ ranges_are core F cs f.parts a }

pub or_made : (core : Core) (c : Cons) (ds cs : List Cons) (f : ReifyFilter) (x : Option (List Part)) → c ≡ C.Or ds → cs ≡ ds → x ≡ Some f.parts → ArePartsIfAny core (map (fact core.tables core.resources) cs) x → IsDisjunctionFor core (fact core.tables core.resources c) f
or_made core c ds cs f x e i j a =
    filter_made core (fact core.tables core.resources c) (map (fact core.tables core.resources) cs) f
    (ap (fact core.tables core.resources) (e ∙ ap C.Or (sym i)) ∙ fact_Or core.tables core.resources cs) (subst (ArePartsIfAny core (map (fact core.tables core.resources) cs)) j a)

implied_is : (core : Core) (c a b p q : Cons) → c ≡ C.Imp a b → p ≡ a → q ≡ b → fact core.tables core.resources c ≡ Fact.or (facts_of (Fact.not (fact core.tables core.resources p) ∷ fact core.tables core.resources q ∷ []))
implied_is core c a b p q e i j = ap (fact core.tables core.resources) (e ∙ ap (λ z. C.Imp z b) (sym i) ∙ ap (C.Imp p) (sym j)) ∙ fact_Imp core.tables core.resources p q

pub imp_made : (core : Core) (c a b p q : Cons) (f : ReifyFilter) (x : Option (List Part)) → c ≡ C.Imp a b → p ≡ a → q ≡ b → x ≡ Some f.parts
    → ArePartsIfAny core (Fact.not (fact core.tables core.resources p) ∷ fact core.tables core.resources q ∷ []) x → IsDisjunctionFor core (fact core.tables core.resources c) f
imp_made core c a b p q f x e i j k l =
    let cs = Fact.not (fact core.tables core.resources p) ∷ fact core.tables core.resources q ∷ [] in
    filter_made core (fact core.tables core.resources c) cs f (implied_is core c a b p q e i j) (subst (ArePartsIfAny core cs) k l)

pub or_kind : (core : Core) (c : Cons) (ds cs : List Cons) (x : Option (List Part)) (ps : List Part) → c ≡ C.Or ds → cs ≡ ds → x ≡ Some ps → AreLiteralsIfAny core cs x → IsDisjunction core c
or_kind core c ds cs x ps e i j l = a_disjunction core c ds cs e i (subst (AreLiteralsIfAny core cs) j l)

pub imp_kind : (core : Core) (c a b p q : Cons) (x : Option (List Part)) (ps : List Part) → c ≡ C.Imp a b → p ≡ a → q ≡ b → x ≡ Some ps → AreLiteralsIfAny core (p ∷ q ∷ []) x → IsDisjunction core c
imp_kind core c a b p q x ps e i j k l = an_implication core c a b p q e i j (subst (AreLiteralsIfAny core (p ∷ q ∷ [])) k l)

pub or_sound : (core : Core) (c : Cons) (ds cs : List Cons) → c ≡ C.Or ds → cs ≡ ds → IsSoundFact core.sets (fact core.tables core.resources c) → AreSoundFacts core.sets (facts_of (map (fact core.tables core.resources) cs))
or_sound core c ds cs e i s = subst (IsSoundFact core.sets) (ap (fact core.tables core.resources) (e ∙ ap C.Or (sym i)) ∙ fact_Or core.tables core.resources cs) s

pub imp_sound : (core : Core) (c a b p q : Cons) → c ≡ C.Imp a b → p ≡ a → q ≡ b → IsSoundFact core.sets (fact core.tables core.resources c) → IsSoundFact core.sets (fact core.tables core.resources p) × IsSoundFact core.sets (fact core.tables core.resources q)
imp_sound core c a b p q e i j s = let t = subst (IsSoundFact core.sets) (implied_is core c a b p q e i j) s in (t.0, t.1.0)

-- what holds of the disjunction of the parts holds of the constraint
pub tests_read : (core : Core) (c : Fact) (f : ReifyFilter) (ps : List Part) → IsDisjunctionFor core c f → ps ≡ f.parts → refutes (any_of core ps) ≡ refutes c
tests_read core c f ps d e = ap (λ qs. refutes (any_of core qs)) e ∙ fun_ext (λ F. ap (λ r. cond (is_possible r) false true) (sym (d.same F)))
