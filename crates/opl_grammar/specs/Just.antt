-- Whether a phrase that was read is just a name, or just a prim with its suffixes.
use Rattle.std.specs.Prelude.{List, [], ◌∷◌, Option, Some, None}
use Rattle.opl_tree.specs.declared.expression.AddStep.{AddStep}
use Rattle.opl_tree.specs.declared.expression.AddTree.{AddTree, out-AddTree}
use Rattle.opl_tree.specs.declared.expression.AndTree.{AndTree, out-AndTree}
use Rattle.opl_tree.specs.declared.expression.CompareTree.{CompareTree, out-CompareTree}
use Rattle.opl_tree.specs.declared.expression.ExprTree.{ExprTree, out-ExprTree}
use Rattle.opl_tree.specs.declared.expression.GroupStep.{GroupStep}
use Rattle.opl_tree.specs.declared.expression.GroupTree.{GroupTree}
use Rattle.opl_tree.specs.declared.expression.ImpTree.{ImpTree, out-ImpTree}
use Rattle.opl_tree.specs.declared.expression.KeyedTree.{KeyedTree}
use Rattle.opl_tree.specs.declared.expression.LastStep.{LastStep}
use Rattle.opl_tree.specs.declared.expression.MulStep.{MulStep}
use Rattle.opl_tree.specs.declared.expression.MulTree.{MulTree, out-MulTree}
use Rattle.opl_tree.specs.declared.expression.NegTree.{NegTree, out-NegTree}
use Rattle.opl_tree.specs.declared.expression.OpenTree.{OpenTree}
use Rattle.opl_tree.specs.declared.expression.OrTree.{OrTree, out-OrTree}
use Rattle.opl_tree.specs.declared.expression.ParamsTree.{ParamsTree}
use Rattle.opl_tree.specs.declared.expression.PostTree.{PostTree, out-PostTree}
use Rattle.opl_tree.specs.declared.expression.PrimTree.{PrimTree, out-PrimTree}
use Rattle.opl_tree.specs.declared.expression.SetTree.{SetTree, out-SetTree}
use Rattle.opl_tree.specs.declared.expression.SignTree.{SignTree, out-SignTree}
use Rattle.opl_tree.specs.declared.expression.SubscriptsTree.{SubscriptsTree}
use Rattle.opl_tree.specs.declared.expression.SuffixTree.{SuffixTree}
use Rattle.opl_tree.specs.declared.expression.NameTree.{NameTree}
use Rattle.opl_tree.specs.declared.expression.CompareTree.TheOpen.{CompareTree-F, MulTree-F, NegTree-F, PrimTree-F, SignTree-F}

-- that, where nothing stands behind it
abbrev pub alone : {A B : Type 0} → List A → Option B → Option B
alone [] t = t
alone (x ∷ xs) t = None

-- that, where the other phrase is left out
abbrev pub without : {A B : Type 0} → Option A → Option B → Option B
without None t = t
without (Some x) t = None

-- ---- one node of a tree

abbrev pub OneCompare : Type 0
OneCompare = CompareTree-F CompareTree MulTree NegTree OpenTree PrimTree SignTree SuffixTree AddStep AddTree AndTree ExprTree GroupStep GroupTree ImpTree KeyedTree LastStep MulStep OrTree ParamsTree PostTree SetTree SubscriptsTree

abbrev pub OneMul : Type 0
OneMul = MulTree-F CompareTree MulTree NegTree OpenTree PrimTree SignTree SuffixTree AddStep AddTree AndTree ExprTree GroupStep GroupTree ImpTree KeyedTree LastStep MulStep OrTree ParamsTree PostTree SetTree SubscriptsTree

abbrev pub OneNeg : Type 0
OneNeg = NegTree-F CompareTree MulTree NegTree OpenTree PrimTree SignTree SuffixTree AddStep AddTree AndTree ExprTree GroupStep GroupTree ImpTree KeyedTree LastStep MulStep OrTree ParamsTree PostTree SetTree SubscriptsTree

abbrev pub OnePrim : Type 0
OnePrim = PrimTree-F CompareTree MulTree NegTree OpenTree PrimTree SignTree SuffixTree AddStep AddTree AndTree ExprTree GroupStep GroupTree ImpTree KeyedTree LastStep MulStep OrTree ParamsTree PostTree SetTree SubscriptsTree

abbrev pub OneSign : Type 0
OneSign = SignTree-F CompareTree MulTree NegTree OpenTree PrimTree SignTree SuffixTree AddStep AddTree AndTree ExprTree GroupStep GroupTree ImpTree KeyedTree LastStep MulStep OrTree ParamsTree PostTree SetTree SubscriptsTree

-- ---- just a prim with its suffixes

abbrev pub post_at_sign : OneSign → Option PostTree
post_at_sign (SignTree-F.Postfix t) = Some t
post_at_sign (SignTree-F.Negative at t) = None

-- a factor without a sign
unfoldable pub post_of_sign : SignTree → Option PostTree
post_of_sign t = post_at_sign (out-SignTree t)

abbrev pub post_at_mul : OneMul → Option PostTree
post_at_mul (MulTree-F.Product at first steps last) = alone steps (without last (post_of_sign first))
post_at_mul (MulTree-F.Opened t) = None

-- a product of one factor
unfoldable pub post_of_mul : MulTree → Option PostTree
post_of_mul t = post_at_mul (out-MulTree t)

-- a sum of one product
unfoldable pub post_of_add : AddTree → Option PostTree
post_of_add t = alone (out-AddTree t).rest (post_of_mul (out-AddTree t).first)

abbrev pub post_at_compare : OneCompare → Option PostTree
post_at_compare (CompareTree-F.Single at t) = post_of_add t
post_at_compare (CompareTree-F.Related at left relation right) = None
post_at_compare (CompareTree-F.Member at left s) = None

-- a comparison of nothing
unfoldable pub post_of_compare : CompareTree → Option PostTree
post_of_compare t = post_at_compare (out-CompareTree t)

abbrev pub post_at_neg : OneNeg → Option PostTree
post_at_neg (NegTree-F.Compare t) = post_of_compare t
post_at_neg (NegTree-F.Not at t) = None

-- what is not negated
unfoldable pub post_of_neg : NegTree → Option PostTree
post_of_neg t = post_at_neg (out-NegTree t)

-- what stands without `&`
unfoldable pub post_of_and : AndTree → Option PostTree
post_of_and t = alone (out-AndTree t).rest (post_of_neg (out-AndTree t).first)

-- what stands without `\/`
unfoldable pub post_of_or : OrTree → Option PostTree
post_of_or t = alone (out-OrTree t).rest (post_of_and (out-OrTree t).first)

-- what stands without `=>`
unfoldable pub post_of_imp : ImpTree → Option PostTree
post_of_imp t = without (out-ImpTree t).conclusion (post_of_or (out-ImpTree t).premise)

-- the prim with its suffixes that an expression is, if it is no more
unfoldable pub post_of : ExprTree → Option PostTree
post_of t = alone (out-ExprTree t).rest (post_of_imp (out-ExprTree t).first)

-- ---- just a name

abbrev pub name_at_prim : OnePrim → Option NameTree
name_at_prim (PrimTree-F.Named t) = Some t
name_at_prim _ = None

-- the name that a prim is
unfoldable pub name_of_prim : PrimTree → Option NameTree
name_of_prim t = name_at_prim (out-PrimTree t)

-- a prim without suffixes
unfoldable pub name_of_post : PostTree → Option NameTree
name_of_post t = alone (out-PostTree t).suffixes (name_of_prim (out-PostTree t).prim)

abbrev pub name_of_found : Option PostTree → Option NameTree
name_of_found (Some t) = name_of_post t
name_of_found None = None

-- the name that a set is, if it is no more
unfoldable pub name_of : SetTree → Option NameTree
name_of t = without (out-SetTree t).high (name_of_found (post_of_add (out-SetTree t).low))
