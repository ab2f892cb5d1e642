-- Crowds: members over some variables, some of whom wait.
use Rattle.std.specs.Prelude.{◌≡◌, ℕ, ◌<◌, ◌≤◌, ◌^◌, Bool, true, List, [], map, length, replicate, slice_get, Some}
use Rattle.opl_expr.specs.declared.model.Core.{Core}
use Rattle.opl_closure.specs.Waits.{watches}
use Rattle.opl_closure.specs.Watching.{KeepsBefore}
use Rattle.opl_closure.specs.Members.{AreWatched}
use Rattle.opl_expr.specs.Forms.{Fact}
use Rattle.opl_trail.specs.Levels.{Levels}
use Rattle.opl_count.specs.Places.{Extends}
use Rattle.opl_engine.specs.Members.{fact_of, means_member, means_members, wakes_on, wakes_by_ends, IsMember}
use Rattle.opl_engine.specs.declared.member.Member.{Member}
use Rattle.opl_engine.specs.declared.member.Member.TheVariants as member

-- how many variables there are, the members, for each whether it waits, and the notes of all
pub record Crowd : Type 0 where
  pub variables : ℕ
  pub members : List Member
  pub waits : List Bool
  pub notes : Levels

-- each member watches the variables that wake it
pub record IsCrowd (members : List Member) (watchers end_watchers : List (List ℕ)) (waits : List Bool) : Type 0 where
  pub few : length members < 2 ^ 32
  pub same : length waits ≡ length members
  pub watched : AreWatched watchers (map wakes_on members)
  pub watched_ends : AreWatched end_watchers (map wakes_by_ends members)
  pub alike : length end_watchers ≡ length watchers

-- as many variables have lists, and the members before i watch what they watched
pub record Keeps (i : ℕ) (old new : List (List ℕ)) : Type 0 where
  pub long : length new ≡ length old
  pub before : KeepsBefore i old new

-- member i watches the variables that wake it
abbrev pub Watches : ℕ → (ℕ → Bool) → List (List ℕ) → Type 0
Watches i wakes watchers = (x : ℕ) → wakes x ≡ true → watches watchers i x ≡ true

-- the kinds of members
abbrev pub kind_of : Member → ℕ
kind_of (member.Bound best variables form) = 0
kind_of (member.Declared k variables form) = 1
kind_of (member.Posted c variables form) = 2
kind_of (member.Value x v) = 3

-- the same member, whatever its own filter keeps: one of the same cores and kind, for the same constraint, woken by the same variables, which
-- takes places of notes to stand for the same constraints
pub record IsSameMember (old new : Member) : Type 0 where
  pub constraint : (core : Core) → fact_of core new ≡ fact_of core old
  pub made : (core : Core) → IsMember core old → IsMember core new
  pub means : (core : Core) (facts : ℕ → Fact) (n : ℕ) → means_member core old facts n → means_member core new facts n
  pub woken : (x : ℕ) → wakes_on new x ≡ wakes_on old x
  pub woken_by_ends : (x : ℕ) → wakes_by_ends new x ≡ wakes_by_ends old x
  pub kind : kind_of new ≡ kind_of old

-- the member is as before, but for its places of notes, which lie between two numbers
pub record GivesMemberPlaces (old new : Member) (first n : ℕ) : Type 0 where
  pub more : first ≤ n
  pub constraint : (core : Core) → fact_of core new ≡ fact_of core old
  pub made : (core : Core) → IsMember core old → IsMember core new
  pub woken : (x : ℕ) → wakes_on new x ≡ wakes_on old x
  pub woken_by_ends : (x : ℕ) → wakes_by_ends new x ≡ wakes_by_ends old x
  pub kind : kind_of new ≡ kind_of old
  pub places : (core : Core) (facts : ℕ → Fact) → Extends (means_member core new) facts first n

-- so are all members
pub record GivesAllPlaces (old new : List Member) (n : ℕ) : Type 0 where
  pub constraints : (core : Core) → map (fact_of core) new ≡ map (fact_of core) old
  pub made : (core : Core) → ((i : ℕ) (m : Member) → slice_get old i ≡ Some m → IsMember core m) → (i : ℕ) (m : Member) → slice_get new i ≡ Some m → IsMember core m
  pub woken : map wakes_on new ≡ map wakes_on old
  pub woken_by_ends : map wakes_by_ends new ≡ map wakes_by_ends old
  pub kinds : map kind_of new ≡ map kind_of old
  pub places : (core : Core) → (facts : ℕ → Fact) × means_members core new facts n

-- nothing is noted yet, and no level is open
abbrev pub no_notes : ℕ → Levels
no_notes n = record { top = replicate n 0; below = [] }

-- all members have places in notes in which nothing is noted; all else is as before
pub record PlacesNotes (old new : Crowd) : Type 0 where
  pub variables : new.variables ≡ old.variables
  pub waits : new.waits ≡ old.waits
  pub places : ℕ
  pub given : GivesAllPlaces old.members new.members places
  pub notes : new.notes ≡ no_notes places
