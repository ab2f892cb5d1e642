-- What notes tell as an engine works.
use Rattle.std.proofs.Common.{◌≡◌, ℕ, refl, List, [], ◌∷◌, ◌++◌, length, take, set, sym, subst}
use Rattle.std.proofs.lemmas.List.{length-replicate}
use Rattle.opl_domain.specs.Family.{Family}
use Rattle.opl_expr.specs.declared.model.Core.{Core}
use Rattle.opl_expr.specs.Forms.{Fact}
use Rattle.opl_trail.specs.Levels.{Levels}
use Rattle.opl_notes.specs.Noted.{Knows, Tells}
use Rattle.opl_notes.proofs.Rightness.{right_new}
use Rattle.opl_engine.specs.declared.member.Member.{Member}
use Rattle.opl_engine.specs.Members.{means_member, means_members}
use Rattle.opl_engine.specs.Crowds.{Crowd}
use Rattle.opl_engine.specs.Engines.{HasPlaces}
use Rattle.opl_engine.specs.States.{AreRightBelow, FitNotes}
use Rattle.opl_engine.proofs.Made.{each_added}
use Rattle.opl_engine.proofs.Crowds.{each_taken, each_set}

module _ (core : Core) where
  pub notes_added : (ms : List Member) (m : Member) (ns : Levels) (F : Family) (below : List Family) → ((facts : ℕ → Fact) (n : ℕ) → means_member core m facts n) → FitNotes core ms ns F below → FitNotes core (ms ++ m ∷ []) ns F below
  notes_added ms m ns F below h f = record {
    facts = f.facts;
    meant = each_added (λ a. means_member core a f.facts (length ns.top)) ms m f.meant (h f.facts (length ns.top));
    right = f.right;
    earlier = f.earlier;
  }

  pub notes_set : (ms : List Member) (m : Member) (ns : Levels) (F : Family) (below : List Family) → ((facts : ℕ → Fact) (n : ℕ) → means_member core m facts n) → FitNotes core ms ns F below → FitNotes core (set ms 0 m) ns F below
  notes_set ms m ns F below h f = record {
    facts = f.facts;
    meant = each_set (λ a. means_member core a f.facts (length ns.top)) ms m f.meant (h f.facts (length ns.top));
    right = f.right;
    earlier = f.earlier;
  }

  pub notes_opened : (ms : List Member) (ns : Levels) (F : Family) (below : List Family) → FitNotes core ms ns F below → FitNotes core ms (record { top = ns.top; below = ns.top ∷ ns.below }) F (F ∷ below)
  notes_opened ms ns F below f = record { facts = f.facts; meant = f.meant; right = f.right; earlier = (refl, f.right, f.earlier) }

  pub notes_closed : (ms : List Member) (k : ℕ) (ns new : Levels) (F G : Family) (below : List Family) → ns.below ≡ new.top ∷ new.below → FitNotes core ms ns F (G ∷ below) → FitNotes core (take k ms) new G below
  notes_closed ms k ns new F G below e f =
      let h = subst (λ b. AreRightBelow f.facts (length ns.top) b (G ∷ below)) e f.earlier in
      record {
        facts = f.facts;
        meant = each_taken (λ a. means_member core a f.facts (length new.top)) k ms (subst (means_members core ms f.facts) (sym h.0) f.meant);
        right = h.1;
        earlier = subst (λ n. AreRightBelow f.facts n new.below below) (sym h.0) h.2;
      }

  pub notes_new : (crowd : Crowd) (F : Family) → HasPlaces core crowd → FitNotes core crowd.members crowd.notes F []
  notes_new crowd F p = subst (λ ns. FitNotes core crowd.members ns F []) (sym p.notes) (record {
    facts = p.facts;
    meant = subst (means_members core crowd.members p.facts) (sym (length-replicate {A = ℕ} p.places 0)) p.meant;
    right = right_new p.facts p.places F;
    earlier = tt;
  })

  pub notes_narrowed : (ms ks : List Member) (ns new : Levels) (F G : Family) (below : List Family) → Tells (means_members core ms) ns F new G → ((facts : ℕ → Fact) (n : ℕ) → means_members core ms facts n → means_members core ks facts n) → FitNotes core ms ns F below → FitNotes core ks new G below
  notes_narrowed ms ks ns new F G below t h f = record {
    facts = f.facts;
    meant = h f.facts (length new.top) (subst (means_members core ms f.facts) (sym t.places) f.meant);
    right = t.right f.facts f.meant f.right;
    earlier = subst (λ n. AreRightBelow f.facts n new.below below) (sym t.places) (subst (λ b. AreRightBelow f.facts (length ns.top) b below) (sym t.below) f.earlier);
  }

  pub knows_of : (ms : List Member) (ns : Levels) (F : Family) (below : List Family) → FitNotes core ms ns F below → Knows (means_members core ms) ns.top F
  knows_of ms ns F below f = record { facts = f.facts; meant = f.meant; right = f.right }
