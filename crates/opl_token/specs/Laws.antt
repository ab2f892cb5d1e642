-- The laws of token lists and of faults.
use Rattle.std.specs.Prelude.{◌≡◌, ◌≢◌, ◌<◌, ◌≤◌, ◌⊎◌, ℕ, pos, ◌^◌, List, length, map, All}
use Rattle.std.specs.List.Sorted.{IsStrictlyIncreasing}
use Rattle.opl_token.specs.declared.fault.ScanFault.{ScanFault}
use Rattle.opl_token.specs.declared.fault.ScanFault.TheVariants.{OutOfMemory}
use Rattle.opl_token.specs.declared.token.Kind.{Kind}
use Rattle.opl_token.specs.declared.token.Kind.TheVariants as kind
use Rattle.opl_token.specs.declared.token.Token.{Token}
use Rattle.opl_token.specs.Scan.{Scans, Faults}

-- a text has at most one token list
abbrev pub OneScan : Type 0
OneScan = (bytes : List ℕ) (tokens others : List Token) → Scans bytes tokens → Scans bytes others → tokens ≡ others

-- a text that has a token list has no fault
abbrev pub NoFault : Type 0
NoFault = (bytes : List ℕ) (tokens : List Token) (fault : ScanFault) → Scans bytes tokens → Faults bytes fault → fault ≡ OutOfMemory

-- a text has at most one fault
abbrev pub OneFault : Type 0
OneFault = (bytes : List ℕ) (fault other : ScanFault) → Faults bytes fault → Faults bytes other → fault ≢ OutOfMemory → other ≢ OutOfMemory → fault ≡ other

-- a text has a token list or a fault
abbrev pub Total : Type 0
Total = (bytes : List ℕ) → ((tokens : List Token) × Scans bytes tokens) ⊎ ((fault : ScanFault) × (fault ≢ OutOfMemory) × Faults bytes fault)

-- a text has no more tokens than bytes
abbrev pub FewTokens : Type 0
FewTokens = (bytes : List ℕ) (tokens : List Token) → Scans bytes tokens → length tokens ≤ length bytes

-- each token begins within its text
abbrev pub PlacesWithin : Type 0
PlacesWithin = (bytes : List ℕ) (tokens : List Token) → Scans bytes tokens → All (λ token. token.at < length bytes) tokens

-- each token begins behind the one before it
abbrev pub PlacesRise : Type 0
PlacesRise = (bytes : List ℕ) (tokens : List Token) → Scans bytes tokens → IsStrictlyIncreasing (map (λ token. token.at) tokens)

-- a number is from 0 to 2 ^ 127 - 1
abbrev pub NumberFits : Kind → Type 0
NumberFits (kind.Number n) = (value : ℕ) × (n ≡ pos value) × (value < 2 ^ 127)
NumberFits (kind.Word name) = Unit {0}
NumberFits (kind.Text text) = Unit {0}
NumberFits (kind.Sign s) = Unit {0}

-- each number of a token is one of these
abbrev pub NumbersFit : Type 0
NumbersFit = (bytes : List ℕ) (tokens : List Token) → Scans bytes tokens → All (λ token. NumberFits token.kind) tokens
