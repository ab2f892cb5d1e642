-- From the bytes of the files of a call to their trees.
use Rattle.std.specs.Prelude.{◌≡◌, ◌⊎◌, ◌≤◌, ℕ, List, length, Option, Some, None, Ok, Err, Result}
use Rattle.opl_token.specs.declared.fault.ScanFault.{ScanFault}
use Rattle.opl_token.specs.declared.fault.ScanFault.TheVariants as scan
use Rattle.opl_token.specs.Scan.{Scans, Faults}
use Rattle.opl_tree.specs.declared.model.ModelTree.{ModelTree}
use Rattle.opl_tree.specs.Depth.{depth_of, max_nesting}
use Rattle.opl_tree.specs.Marks.{Marks, marks_model}
use Rattle.opl_reader_laws.specs.Reading as of_marks
use Rattle.opl_data.specs.declared.tree.DataTree.{DataTree}
use Rattle.opl_data.specs.Marks.{marks_file}
use Rattle.opl_model_types.specs.Models.{model}
use Rattle.opl_type_rules.specs.declared.fault.TypeFault.{TypeFault}
use Rattle.opl_type_rules.specs.declared.fault.TypeFault.TheVariants as types
use Rattle.opl_type_rules.specs.Types.{Sort}
use Rattle.opl_files.specs.declared.front.Front.{Front}
use Rattle.opl_model_types.specs.declared.typed.Typed.{Typed}
use Rattle.opl_files.specs.declared.refusal.Fault.TheVariants.{BadByte, OpenComment, OpenString, NumberTooLarge, Syntax, TooDeep, Unknown, Duplicate, NotData, Mismatch}
use Rattle.opl_files.specs.declared.refusal.Refusal.{Refusal}
use Rattle.opl_files.specs.declared.refusal.Refusal.TheVariants.{At}
use Rattle.opl_files.specs.declared.scanning.Tokens.{Tokens}
use Rattle.opl_files.specs.declared.stop.Stop.{Stop}
use Rattle.opl_files.specs.Stage.{Stage, Then, Each, Only}

-- the refusal at a fault of the scan; want of memory is none
abbrev pub refusal_of_scan : (file : ℕ) → ScanFault → Option Refusal
refusal_of_scan file (scan.BadByte at) = Some (At BadByte file at)
refusal_of_scan file (scan.OpenComment at) = Some (At OpenComment file at)
refusal_of_scan file (scan.OpenString at) = Some (At OpenString file at)
refusal_of_scan file (scan.NumberTooLarge at) = Some (At NumberTooLarge file at)
refusal_of_scan file scan.OutOfMemory = None

-- the tokens of a file
abbrev pub Scanned : (file : ℕ) → List ℕ → Stage Tokens
Scanned file bytes (Ok tokens) = Scans bytes tokens.list × (tokens.end ≡ length bytes)
Scanned file bytes (Err e) = (fault : ScanFault) × (refusal_of_scan file fault ≡ Some e) × Faults bytes fault

-- where the tokens of a file stop being the beginning of a text of its grammar, while none opens a level of nesting too many; or
-- the first that opens one
abbrev pub IsSyntaxFault : {T : Type 0} → (T → Marks) → (file : ℕ) → Tokens → Refusal → Type 0
IsSyntaxFault marks file tokens e =
    ((at : ℕ) × (e ≡ At Syntax file at) × of_marks.StopsAt marks tokens.list tokens.end at × of_marks.NoneOpens marks max_nesting tokens.list)
    ⊎ ((at : ℕ) × (e ≡ At TooDeep file at) × of_marks.OpensAt marks max_nesting tokens.list at)

-- the tree of a file's tokens, which does not nest too deep
abbrev pub TreeOf : {T : Type 0} → (T → Marks) → (file : ℕ) → Tokens → Stage T
TreeOf marks file tokens (Ok tree) = of_marks.IsTreeOf marks tree tokens.list tokens.end × (depth_of (marks tree) ≤ max_nesting)
TreeOf marks file tokens (Err e) = IsSyntaxFault marks file tokens e

-- the tree of the model's tokens
abbrev pub Parsed : Tokens → Stage ModelTree
Parsed = TreeOf marks_model 0

-- the tree of a data file's tokens
abbrev pub DataParsed : (file : ℕ) → Tokens → Stage DataTree
DataParsed = TreeOf marks_file

-- the refusal at a fault of typing; want of memory is none
abbrev pub refusal_of_type : TypeFault → Option Refusal
refusal_of_type (types.Unknown at) = Some (At Unknown 0 at)
refusal_of_type (types.Duplicate at) = Some (At Duplicate 0 at)
refusal_of_type (types.NotData at) = Some (At NotData 0 at)
refusal_of_type (types.Mismatch at) = Some (At Mismatch 0 at)
refusal_of_type types.OutOfMemory = None

-- the tree itself, where its expressions have types; else the first fault of typing
abbrev pub HasTypes : ModelTree → Stage ModelTree
HasTypes tree (Ok t) = (t ≡ tree) × (kinds : List Sort) × (model tree ≡ Ok kinds)
HasTypes tree (Err e) = (fault : TypeFault) × (refusal_of_type fault ≡ Some e) × (model tree ≡ Err fault)

-- the tree of a typed model
abbrev pub tree_of : Result Typed Stop → Result ModelTree Stop
tree_of (Ok typed) = Ok typed.tree
tree_of (Err stop) = Err stop

-- the trees of the files of a call, the model's with the types of its expressions
abbrev pub front_of : Result Front Stop → Result (ModelTree × List DataTree) Stop
front_of (Ok front) = Ok (front.typed.tree, front.files)
front_of (Err stop) = Err stop

-- the model's tree, and those of the data files beside it
abbrev pub beside : List DataTree → Result ModelTree Stop → Result (ModelTree × List DataTree) Stop
beside files (Ok tree) = Ok (tree, files)
beside files (Err stop) = Err stop

-- the tree of the model's tokens, whose expressions have types, and those of the data files: the syntax of each comes first
abbrev pub Understood : Tokens → List Tokens → Stage (ModelTree × List DataTree)
Understood tokens more = Then (Parsed tokens) (λ tree. Then (Each DataParsed 1 more) (λ files. Then (HasTypes tree) (λ t. Only (t, files))))

-- the trees of the bytes of the model's file and of the data files: the scan of each comes first
abbrev pub Read : List ℕ → List (List ℕ) → Stage (ModelTree × List DataTree)
Read bytes more = Then (Scanned 0 bytes) (λ tokens. Then (Each Scanned 1 more) (Understood tokens))
