-- The values of a model that was read have the forms of its types.
use Rattle.std.proofs.Common.{◌≡◌, ◌<◌, ◌≤◌, ◌^◌, inl, inr, ℕ, List, length, Result, Ok, sym, ap, ◌∙◌, subst, arith}
use Rattle.opl_token.proofs.Bounds.{few_tokens, places_rise}
use Rattle.opl_tree.specs.declared.model.ModelTree.{ModelTree}
use Rattle.opl_tree.specs.Marks.{marks_model}
use Rattle.opl_reader_laws.specs.Reading.{IsTreeOf}
use Rattle.opl_type_rules.specs.Types.{Sort}
use Rattle.opl_model_types.specs.Models.{model}
use Rattle.opl_typed_model.proofs.Lawful.{model_sound}
use Rattle.opl_data.specs.declared.tree.DataTree.{DataTree}
use Rattle.opl_bound_fields.proofs.Told.{model_values_fit}
use Rattle.opl_files.specs.declared.refusal.Refusal.{Refusal}
use Rattle.opl_files.specs.declared.scanning.Tokens.{Tokens}
use Rattle.opl_files.specs.Held.{Held, Trees}
use Rattle.opl_files.specs.Reading.{DataParsed, HasTypes, Parsed, Read, Scanned, Understood}
use Rattle.opl_files.specs.Stage.{Each, Only, Stage, Then}
use Rattle.opl_prepare.specs.Positions.{positions}
use Rattle.opl_read_fields.specs.Laws.{LoadedModelValuesFit, ReadModelValuesFit}
use Rattle.opl_read_fields.proofs.Positions.{positions_are_told}
use Rattle.opl_read_fields.proofs.Texts.{few_declarations, names_of_texts_differ}

small : (declarations tokens bytes : ℕ) → declarations ≤ tokens → tokens ≤ bytes → bytes < 2 ^ 32 → declarations < 2 ^ 32
small declarations tokens bytes few fewer h = omega arith

pub read_model_values_fit : ReadModelValuesFit
read_model_values_fit bytes tokens end t kinds files final short scan tree h b =
    model_values_fit (positions t) t files final (small (length t.decls) (length tokens) (length bytes) (few_declarations t tokens end tree) (few_tokens bytes tokens scan) short) (model_sound t kinds h)
    (positions_are_told t kinds (names_of_texts_differ t tokens end tree (places_rise bytes tokens scan)) h) b

-- ---- what was read

-- a stage that gave something followed one that did
given_by : {A B : Type 0} (P : Stage A) (Q : A → Stage B) (b : B) → Then P Q (Ok b) → (a : A) × P (Ok a) × Q a (Ok b)
given_by P Q b (inl h) = h
given_by P Q b (inr (e, p, q)) = absurd (cc)

same_trees : (a b : Trees) → ◌≡◌ {A = Result Trees Refusal} (Ok a) (Ok b) → a ≡ b
same_trees a b h = cc

-- the model's tree with the types of its expressions
typed_tree : (tree t : ModelTree) (fs files : List DataTree) → Then {B = Trees} (HasTypes tree) (λ u. Only (u, fs)) (Ok (t, files)) → HasTypes tree (Ok t)
typed_tree tree t fs files h =
    let typed = given_by {B = Trees} (HasTypes tree) (λ u. Only (u, fs)) (t, files) h in
    let is : t ≡ typed.0 = ap (λ (trees : Trees). trees.0) (same_trees (t, files) (typed.0, fs) typed.2) in
    subst (λ u. HasTypes tree (Ok u)) (sym is) typed.1

-- it is the tree of the tokens of the text
read_tree : (tokens : Tokens) (more : List Tokens) (t : ModelTree) (files : List DataTree) → Understood tokens more (Ok (t, files)) → IsTreeOf marks_model t tokens.list tokens.end × (kinds : List Sort) × (model t ≡ Ok kinds)
read_tree tokens more t files h =
    let parsed = given_by {B = Trees} (Parsed tokens) (λ tree. Then {B = Trees} (Each DataParsed 1 more) (λ fs. Then {B = Trees} (HasTypes tree) (λ u. Only (u, fs)))) (t, files) h in
    let others = given_by {B = Trees} (Each DataParsed 1 more) (λ fs. Then {B = Trees} (HasTypes parsed.0) (λ u. Only (u, fs))) (t, files) parsed.2 in
    let typed = typed_tree parsed.0 t others.0 files others.2 in
    (subst (λ u. IsTreeOf marks_model u tokens.list tokens.end) (sym typed.0) parsed.1.0, typed.1, ap model typed.0 ∙ typed.2)

short_file : (bytes : ℕ) → bytes ≤ 2 ^ 24 → bytes < 2 ^ 32
short_file bytes h = omega arith

pub loaded_model_values_fit : LoadedModelValuesFit
loaded_model_values_fit held name names t files final h b =
    let file = given_by (Held held 0 name) (λ bytes. Then (Each (Held held) 1 names) (Read bytes)) (t, files) h in
    let others = given_by (Each (Held held) 1 names) (Read file.0) (t, files) file.2 in
    let scanned = given_by (Scanned 0 file.0) (λ tokens. Then (Each Scanned 1 others.0) (Understood tokens)) (t, files) others.2 in
    let more = given_by (Each Scanned 1 others.0) (Understood scanned.0) (t, files) scanned.2 in
    let tree = read_tree scanned.0 more.0 t files more.2 in
    read_model_values_fit file.0 scanned.0.list scanned.0.end t tree.1 files final (short_file (length file.0) file.1.1) scanned.1.0 tree.0 tree.2 b
