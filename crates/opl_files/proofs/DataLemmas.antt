-- What the scanner and the parsers answer, as a stage tells it.
use Rattle.std.proofs.Common.{◌≡◌, refl, subst, ℕ, List, Err, inl}
use Rattle.opl_reader_laws.specs.Reading.{ParseAnswers}
use Rattle.opl_tree.specs.Marks.{Marks}
use Rattle.opl_token.specs.declared.token.Token.{Token}
use Rattle.opl_tree.specs.declared.fault.SyntaxFault.{SyntaxFault}
use Rattle.opl_tree.specs.declared.fault.SyntaxFault.TheVariants as syntax
use Rattle.opl_files.specs.declared.refusal.Fault.TheVariants.{Syntax}
use Rattle.opl_files.specs.declared.refusal.Refusal.TheVariants.{At}
use Rattle.opl_files.specs.declared.scanning.Tokens.{Tokens}
use Rattle.opl_files.specs.declared.stop.Stop.{Stop}
use Rattle.opl_files.specs.declared.stop.Stop.TheVariants.{Refused}
use Rattle.opl_files.specs.Reading.{Scanned, TreeOf}
use Rattle.opl_files.specs.Stage.{Gives}

stops : {T : Type 0} (marks : T → Marks) (file : ℕ) (tokens : Tokens) (at : ℕ) → ParseAnswers marks tokens.list tokens.end (Err (syntax.Syntax at)) → Gives (TreeOf marks file tokens) (Err (Refused (At Syntax file at)))
stops marks file tokens at p = inl (at, refl, p.0, p.1)

pub syntax-stops : {T : Type 0} (marks : T → Marks) (file : ℕ) (tokens : Tokens) (list : List Token) (at : ℕ) (fault : SyntaxFault) (stop : Stop) → list ≡ tokens.list → fault ≡ syntax.Syntax at →
    ParseAnswers marks list tokens.end (Err fault) → stop ≡ Refused (At Syntax file at) → Gives (TreeOf marks file tokens) (Err stop)
syntax-stops marks file tokens list at fault stop same is p told = rw told (stops marks file tokens at (rw is at (subst (λ (l : List Token). ParseAnswers marks l tokens.end (Err fault)) same p)))

-- what the scanner answers for the bytes of a list
pub scanned-stops : (file : ℕ) (text bytes : List ℕ) (stop : Stop) → text ≡ bytes → Gives (Scanned file text) (Err stop) → Gives (Scanned file bytes) (Err stop)
scanned-stops file text bytes stop same h = subst (λ (t : List ℕ). Gives (Scanned file t) (Err stop)) same h
