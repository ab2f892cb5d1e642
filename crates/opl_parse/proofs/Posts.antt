-- A prim with its suffixes.
use Rattle.std.proofs.Common.{◌≡◌, ℕ, Bool, true, false, ◌⊎◌, inl, inr, List, [], ◌∷◌, map, Option, refl, sym, ap, ◌∙◌, subst, arith}
use Rattle.std.specs.Prelude.{◌||◌, is_some}
use Rattle.opl_token.specs.declared.sign.Sign.TheVariants as signs
use Rattle.opl_token.specs.declared.token.Kind.{Kind}
use Rattle.opl_tree.specs.declared.expression.NameTree.{NameTree}
use Rattle.opl_tree.specs.declared.expression.ExprTree.{ExprTree}
use Rattle.opl_tree.specs.declared.expression.ImpTree.{ImpTree}
use Rattle.opl_tree.specs.declared.expression.OrTree.{OrTree}
use Rattle.opl_tree.specs.declared.expression.AndTree.{AndTree}
use Rattle.opl_tree.specs.declared.expression.NegTree.{NegTree}
use Rattle.opl_tree.specs.declared.expression.CompareTree.{CompareTree}
use Rattle.opl_tree.specs.declared.expression.AddTree.{AddTree}
use Rattle.opl_tree.specs.declared.expression.AddStep.{AddStep}
use Rattle.opl_tree.specs.declared.expression.MulTree.{MulTree}
use Rattle.opl_tree.specs.declared.expression.MulStep.{MulStep}
use Rattle.opl_tree.specs.declared.expression.LastStep.{LastStep}
use Rattle.opl_tree.specs.declared.expression.OpenTree.{OpenTree}
use Rattle.opl_tree.specs.declared.expression.SignTree.{SignTree}
use Rattle.opl_tree.specs.declared.expression.PostTree.{PostTree}
use Rattle.opl_tree.specs.declared.expression.SuffixTree.{SuffixTree}
use Rattle.opl_tree.specs.declared.expression.SubscriptsTree.{SubscriptsTree}
use Rattle.opl_tree.specs.declared.expression.PrimTree.{PrimTree}
use Rattle.opl_tree.specs.declared.expression.KeyedTree.{KeyedTree}
use Rattle.opl_tree.specs.declared.expression.SetTree.{SetTree}
use Rattle.opl_tree.specs.declared.expression.ParamsTree.{ParamsTree}
use Rattle.opl_tree.specs.declared.expression.GroupStep.{GroupStep}
use Rattle.opl_tree.specs.declared.expression.GroupTree.{GroupTree}
use Rattle.opl_tree.specs.declared.expression.SuffixTree.TheVariants as suffixes
use Rattle.opl_tree.specs.declared.expression.CompareTree.TheViews.{out-PostTree, roll-PostTree, roll-out-PostTree, out-roll-PostTree, out-SubscriptsTree, roll-SubscriptsTree, roll-out-SubscriptsTree, out-SuffixTree, roll-SuffixTree, roll-out-SuffixTree}
use Rattle.opl_tree.specs.declared.expression.CompareTree.TheOpen.{SuffixTree-F}
use Rattle.opl_tree.specs.Marks.{marks_add, marks_suffix, marks_subscripts}
use Rattle.opl_tree.specs.Marks as mk
use Rattle.opl_tree.proofs.Marks.{marks_suffix-Subscripts, marks_suffix-Field, marks_post-of, marks_subscripts-of, marks_subscripts-is}
use Rattle.opl_grammar.specs.Input.{Input, Parser, one, sign, sees_sign, is_sign, any_in, many}
use Rattle.opl_grammar.specs.Tables.{starts_suffix}
use Rattle.opl_grammar.specs.Just.{alone, name_of_prim, name_of_post}
use Rattle.opl_grammar.specs.Rules as g
use Rattle.opl_grammar.specs.Rules.{Rules}
use Rattle.opl_parse.proofs.Follow.{no_suffix, sign_ends}
use Rattle.opl_reader_laws.proofs.Forms.{placed, placed_shape, placed_law, either, by_side, either_shape, either_law, mapped, Made, plain, plain_law}
use Rattle.opl_reader_laws.proofs.Opened.{opened, opened_law}
use Rattle.opl_reader_laws.proofs.Many.{many_law}
use Rattle.opl_reader_laws.proofs.Outcomes.{steps}
use Rattle.opl_reader_laws.proofs.Phrases.{Shape, Law, Any, one_law, pair, pair_shape, pair_law}
use Rattle.opl_parse.proofs.Prims.{prim_law}
use Rattle.opl_parse.proofs.Shapes.{post_shape, suffix_shape, subscripts_shape, RulesLaw}
use Rattle.opl_reader_laws.proofs.Takes.{Written}
use Rattle.opl_reader_laws.proofs.Tokens.{from_sign, sign_table, sign_reads, sign_shape, sign_law, any_reads}

-- ---- fields and subscripts

abbrev pub any_first : Option Kind → Type 0
any_first k = is_some (any_in k) ≡ true

abbrev field_name_shape : Shape NameTree
field_name_shape = plain (λ t. mk.place t.at ∷ mk.token (mk.any t.text) ∷ []) Any (λ F. any_first)

abbrev field_name_to : ℕ × List ℕ → NameTree
field_name_to c = record { at = c.0; text = c.1 }

field_name_is : (i : Input) → g.field_name i ≡ mapped field_name_to (placed (one any_in)) i
unfolding g.field_name
field_name_is i = simp steps

field_name_law : {n : ℕ} → Law n g.field_name g.field_name field_name_shape
field_name_law = plain_law (placed_law (one_law any_reads)) field_name_to (record {
  made = λ t. record { of = (t.at, t.text); is = refl };
  marks = λ c. refl;
  view = λ x. tt;
  tag = λ c. refl;
  closes = λ k h. tt;
  begins = λ F k h. h;
}) g.field_name g.field_name field_name_is field_name_is

abbrev SubscriptsParts : Type 0
SubscriptsParts = ℕ × ((Unit {0} × (AddTree × List AddTree)) × Unit {0})

abbrev subscripts_to : SubscriptsParts → SubscriptsTree
subscripts_to c = roll-SubscriptsTree (record { at = c.0; first = c.1.0.1.0; rest = c.1.0.1.1 })

subscripts_is : (r : Rules) (i : Input) → g.subscripts r i ≡ mapped subscripts_to (placed (pair (opened (sign_table signs.OpenBracket) r.adds) (sign signs.CloseBracket))) i
unfolding g.subscripts
subscripts_is r i = simp steps

pub subscripts_law : {n : ℕ} {r s : Rules} → RulesLaw n r s → Law n (g.subscripts r) (g.subscripts s) subscripts_shape
subscripts_law {n} {r} {s} R = plain_law
    (placed_law (pair_law (opened_law (sign_reads signs.OpenBracket) R.adds) (sign_law signs.CloseBracket) (λ x k h. (sign_ends signs.CloseBracket 3 (omega arith) k h, from_sign signs.CloseBracket (λ l. sees_sign signs.Comma l ≡ false) k h refl))))
    subscripts_to (record {
      made = λ t. record { of = ((out-SubscriptsTree t).at, ((tt, ((out-SubscriptsTree t).first, (out-SubscriptsTree t).rest)), tt)); is = roll-out-SubscriptsTree t };
      marks = λ c. marks_subscripts-of c.0 c.1.0.1.0 c.1.0.1.1;
      view = λ x. tt;
      tag = λ c. refl;
      closes = λ k h. tt;
      begins = λ F k h. h;
    }) (g.subscripts r) (g.subscripts s) (subscripts_is r) (subscripts_is s)

-- ---- suffixes

abbrev SuffixParts : Type 0
SuffixParts = SubscriptsTree ⊎ (ℕ × (Unit {0} × NameTree))

abbrev suffix_to : SuffixParts → SuffixTree
suffix_to (inl t) = suffixes.Subscripts t
suffix_to (inr c) = suffixes.Field c.0 c.1.1

abbrev suffix_read : Rules → Parser SuffixParts
suffix_read r = either (is_sign signs.OpenBracket) (g.subscripts r) (placed (pair (sign signs.Dot) g.field_name))

abbrev suffix_parts : Shape SuffixParts
suffix_parts = either_shape subscripts_shape (placed_shape (pair_shape (sign_shape signs.Dot) field_name_shape))

suffix_is : (r : Rules) (i : Input) → g.suffix r i ≡ mapped suffix_to (suffix_read r) i
unfolding g.suffix g.field_suffix
suffix_is r i = simp steps

abbrev OneSuffix : Type 0
OneSuffix = SuffixTree-F CompareTree MulTree NegTree OpenTree PrimTree SignTree SuffixTree AddStep AddTree AndTree ExprTree GroupStep GroupTree ImpTree KeyedTree LastStep MulStep OrTree ParamsTree PostTree SetTree SubscriptsTree

suffix_layer_made : (x : OneSuffix) → Made suffix_to (roll-SuffixTree x)
suffix_layer_made (SuffixTree-F.Subscripts t) = record { of = inl t; is = sym (suffixes.rolls-Subscripts t) }
suffix_layer_made (SuffixTree-F.Field at t) = record { of = inr (at, (tt, t)); is = sym (suffixes.rolls-Field at t) }

suffix_made : (t : SuffixTree) → Made suffix_to t
suffix_made t = subst (Made suffix_to) (roll-out-SuffixTree t) (suffix_layer_made (out-SuffixTree t))

suffix_spelt : (c : SuffixParts) → marks_suffix (suffix_to c) ≡ suffix_parts.marks c
suffix_spelt (inl t) = marks_suffix-Subscripts t
suffix_spelt (inr c) = marks_suffix-Field c.0 c.1.1

pub suffix_law : {n : ℕ} {r s : Rules} → RulesLaw n r s → Law n (g.suffix r) (g.suffix s) suffix_shape
suffix_law {n} {r} {s} R = plain_law
    (either_law (is_sign signs.OpenBracket) (subscripts_law R) (placed_law (pair_law (sign_law signs.Dot) field_name_law (λ x k h. tt))) (λ F k h. h) (λ F k h. from_sign signs.Dot (λ l. sees_sign signs.OpenBracket l ≡ false) k h refl))
    suffix_to (record {
      made = suffix_made;
      marks = suffix_spelt;
      view = λ x. tt;
      tag = λ c. refl;
      closes = λ k h. (tt, tt);
      begins = λ F k h. by_side (λ a. from_sign signs.OpenBracket (λ l. (sees_sign signs.OpenBracket l || sees_sign signs.Dot l) ≡ true) k a refl) (λ a. from_sign signs.Dot (λ l. (sees_sign signs.OpenBracket l || sees_sign signs.Dot l) ≡ true) k a refl) h;
    }) (g.suffix r) (g.suffix s) (suffix_is r) (suffix_is s)

subscripts_written : (t : SubscriptsTree) → Written (marks_subscripts t)
subscripts_written t = subst Written (sym (marks_subscripts-is t)) (record { first = mk.sign signs.OpenBracket; is = refl })

suffix_written : (t : SuffixTree) → Written (marks_suffix t)
suffix_written t = subst (λ x. Written (marks_suffix x)) (suffix_made t).is (at_parts (suffix_made t).of) where
  at_parts : (c : SuffixParts) → Written (marks_suffix (suffix_to c))
  at_parts (inl t) = subst Written (sym (marks_suffix-Subscripts t)) (subscripts_written t)
  at_parts (inr c) = subst Written (sym (marks_suffix-Field c.0 c.1.1)) (record { first = mk.sign signs.Dot; is = refl })

-- ---- posts

abbrev post_to : ℕ × (PrimTree × List SuffixTree) → PostTree
post_to c = roll-PostTree (record { at = c.0; prim = c.1.0; suffixes = c.1.1 })

post_is : (r : Rules) (i : Input) → g.post r i ≡ mapped post_to (placed (pair (g.prim r) (many starts_suffix (g.suffix r)))) i
unfolding g.post
post_is r i = simp steps

-- what is known where nothing stands behind
abbrev pub alone_kind : {T : Type 0} → List T → Bool → Bool
alone_kind [] b = b
alone_kind (x ∷ xs) b = false

pub alone_some : {A B T : Type 0} (f : A → T) (xs : List A) (o : Option B) → is_some (alone xs o) ≡ alone_kind (map f xs) (is_some o)
alone_some f [] o = refl
alone_some f (x ∷ xs) o = refl

name_of_post_is : (at : ℕ) (t : PrimTree) (ts : List SuffixTree) → name_of_post (post_to (at, (t, ts))) ≡ alone ts (name_of_prim t)
unfolding name_of_post
name_of_post_is at t ts = ap (λ v. alone v.suffixes (name_of_prim v.prim)) (out-roll-PostTree (record { at = at; prim = t; suffixes = ts }))

pub post_law : {n : ℕ} {r s : Rules} → RulesLaw n r s → Law n (g.post r) (g.post s) post_shape
post_law {n} {r} {s} R = plain_law
    (placed_law (pair_law (prim_law R) (many_law starts_suffix (suffix_law R) (record { passes = λ F k h. h; meets = λ k h. tt; written = suffix_written })) (λ x k h. tt)))
    post_to (record {
      made = λ t. record { of = ((out-PostTree t).at, ((out-PostTree t).prim, (out-PostTree t).suffixes)); is = roll-out-PostTree t };
      marks = λ c. marks_post-of c.0 c.1.0 c.1.1;
      view = λ x. alone_kind x.1 x.0;
      tag = λ c. ap is_some (name_of_post_is c.0 c.1.0 c.1.1) ∙ alone_some (λ (t : SuffixTree). tt) c.1.1 (name_of_prim c.1.0);
      closes = λ k h. (tt, no_suffix k h);
      begins = λ F k h. h;
    }) (g.post r) (g.post s) (post_is r) (post_is s)
