-- The bytes of files come to trees, or to a refusal.
use Rattle.std.proofs.Common.{◌≡◌, ◌≢◌, ◌⊎◌, ◌≤◌, refl, ℕ, List, length, Result, Ok, Err, inl, inr}
use Rattle.opl_parse.proofs.TreeLaws.{parse_total}
use Rattle.opl_tree.specs.declared.model.ModelTree.{ModelTree}
use Rattle.opl_tree.specs.Depth.{depth_of, max_nesting}
use Rattle.opl_token.proofs.Unique.{total}
use Rattle.opl_token.specs.declared.fault.ScanFault.{ScanFault}
use Rattle.opl_token.specs.declared.fault.ScanFault.TheVariants as scan
use Rattle.opl_token.specs.declared.token.Token.{Token}
use Rattle.opl_token.specs.Scan.{Scans, Faults}
use Rattle.opl_model_types.specs.Models.{model}
use Rattle.opl_type_rules.specs.declared.fault.TypeFault.{TypeFault}
use Rattle.opl_type_rules.specs.declared.fault.TypeFault.TheVariants as types
use Rattle.opl_type_rules.specs.Types.{Sort}
use Rattle.opl_model_types.proofs.PureItems.{never_memory}
use Rattle.opl_reader_laws.specs.Reading as of_marks
use Rattle.opl_tree.specs.Marks.{Marks, marks_model}
use Rattle.opl_data.specs.Marks.{marks_file}
use Rattle.opl_data.proofs.TreeLaws as of_data
use Rattle.opl_files.specs.declared.refusal.Fault.TheVariants.{BadByte, OpenComment, OpenString, NumberTooLarge, Syntax, TooDeep, Unknown, Duplicate, NotData, Mismatch}
use Rattle.opl_files.specs.declared.refusal.Refusal.TheVariants.{At}
use Rattle.opl_files.specs.declared.scanning.Tokens.{Tokens}
use Rattle.opl_files.specs.Reading.{Scanned, TreeOf, Parsed, DataParsed, HasTypes, Understood, Read}
use Rattle.opl_files.specs.Stage.{Each}
use Rattle.opl_files.proofs.StageLemmas.{Comes, each_comes, then_comes}

refusal_at : (file : ℕ) (bytes : List ℕ) (fault : ScanFault) → fault ≢ scan.OutOfMemory → Faults bytes fault → Comes (Scanned file bytes)
refusal_at file bytes (scan.BadByte at) some f = (Err (At BadByte file at), (scan.BadByte at, refl, f))
refusal_at file bytes (scan.OpenComment at) some f = (Err (At OpenComment file at), (scan.OpenComment at, refl, f))
refusal_at file bytes (scan.OpenString at) some f = (Err (At OpenString file at), (scan.OpenString at, refl, f))
refusal_at file bytes (scan.NumberTooLarge at) some f = (Err (At NumberTooLarge file at), (scan.NumberTooLarge at, refl, f))
refusal_at file bytes scan.OutOfMemory some f = absurd (some refl)

scanned_by : (file : ℕ) (bytes : List ℕ) → ((ts : List Token) × Scans bytes ts) ⊎ ((fault : ScanFault) × (fault ≢ scan.OutOfMemory) × Faults bytes fault) → Comes (Scanned file bytes)
scanned_by file bytes (inl s) = (Ok (record { list = s.0; end = length bytes }), (s.1, refl))
scanned_by file bytes (inr f) = refusal_at file bytes f.0 f.1 f.2

scanned_comes : (file : ℕ) (bytes : List ℕ) → Comes (Scanned file bytes)
scanned_comes file bytes = scanned_by file bytes (total bytes)

tree_by : {T : Type 0} (marks : T → Marks) (file : ℕ) (tokens : Tokens) →
    ((t : T) × of_marks.IsTreeOf marks t tokens.list tokens.end × (depth_of (marks t) ≤ max_nesting))
    ⊎ (((at : ℕ) × of_marks.StopsAt marks tokens.list tokens.end at × of_marks.NoneOpens marks max_nesting tokens.list) ⊎ ((at : ℕ) × of_marks.OpensAt marks max_nesting tokens.list at)) → Comes (TreeOf marks file tokens)
tree_by marks file tokens (inl t) = (Ok t.0, (t.1, t.2))
tree_by marks file tokens (inr (inl s)) = (Err (At Syntax file s.0), inl (s.0, refl, s.1, s.2))
tree_by marks file tokens (inr (inr o)) = (Err (At TooDeep file o.0), inr (o.0, refl, o.1))

data_parsed_comes : (file : ℕ) (tokens : Tokens) → Comes (DataParsed file tokens)
data_parsed_comes file tokens = tree_by marks_file file tokens (of_data.parse_total tokens.list tokens.end)

typed_by : (tree : ModelTree) (r : Result (List Sort) TypeFault) → model tree ≡ r → Comes (HasTypes tree)
typed_by tree (Ok kinds) e = (Ok tree, (refl, kinds, e))
typed_by tree (Err (types.Unknown at)) e = (Err (At Unknown 0 at), (types.Unknown at, refl, e))
typed_by tree (Err (types.Duplicate at)) e = (Err (At Duplicate 0 at), (types.Duplicate at, refl, e))
typed_by tree (Err (types.NotData at)) e = (Err (At NotData 0 at), (types.NotData at, refl, e))
typed_by tree (Err (types.Mismatch at)) e = (Err (At Mismatch 0 at), (types.Mismatch at, refl, e))
typed_by tree (Err types.OutOfMemory) e = absurd (never_memory tree e)

understood_comes : (tokens : Tokens) (more : List Tokens) → Comes (Understood tokens more)
understood_comes tokens more = then_comes (Parsed tokens) _ (tree_by marks_model 0 tokens (parse_total tokens.list tokens.end)) (λ tree.
    then_comes (Each DataParsed 1 more) _ (each_comes DataParsed data_parsed_comes 1 more) (λ files.
    then_comes (HasTypes tree) _ (typed_by tree (model tree) refl) (λ t. (Ok (t, files), refl))))

pub read_comes : (bytes : List ℕ) (more : List (List ℕ)) → Comes (Read bytes more)
read_comes bytes more = then_comes (Scanned 0 bytes) _ (scanned_comes 0 bytes) (λ tokens.
    then_comes (Each Scanned 1 more) _ (each_comes Scanned scanned_comes 1 more) (understood_comes tokens))
