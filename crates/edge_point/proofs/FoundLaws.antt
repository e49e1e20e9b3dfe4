-- Calls that answer what was found of an inode.
use Rattle.std.proofs.Common.{◌≡◌, ℕ, true, List, Option, Some, None, Ok, Err, refl, sym, ap, ◌∙◌, subst, arith}
use Rattle.std.proofs.lemmas.List.FromFn.{get_or-map-range_with_len}
use Rattle.std.specs.Prelude.{◌+◌, ◌*◌, ◌<◌, slice_index, Result, IfSome, is_some}
use Rattle.edge_base.specs.declared.damage.Damage.{Damage}
use Rattle.edge_base.specs.declared.geometry.Request.{Request}
use Rattle.edge_base.specs.layout.Bytes.{number_at}
use Rattle.edge_base.specs.layout.Places.{entries_of}
use Rattle.edge_base.specs.outside.Faults.{Because}
use Rattle.edge_store.specs.Calls.{Called, KeepsWorking, Meets, damage_of}
use Rattle.edge_store.specs.Damages.{damage_of_inode}
use Rattle.edge_store.specs.Effects.{IsHeadAt}
use Rattle.edge_store.specs.State.{StoreState}
use Rattle.edge_store.specs.View.{Inode, View, entries_of_inode, head_of_inode, is_head, is_head_or_none}
use Rattle.edge_store.specs.declared.fault.StoreFault.{StoreFault}
use Rattle.edge_store.specs.declared.fault.StoreFault.TheVariants.{Device, Damaged}
use Rattle.edge_point.specs.Finding.{TellsInode, found_head}
use Rattle.edge_point.specs.declared.inode.Found.{Found}

module _ (old new : StoreState) where
  pub called_ok : {S T : Type 0} (v : S) (w : T) → Called old new (Ok v) → Called old new (Ok w)
  called_ok v w c = record {
    origin = c.origin;
    live = c.live;
    cause = record { later = c.cause.later; passed = c.cause.passed; failed = λ x h. absurd (cc h) };
    guarded = c.guarded;
  }

  pub called_err : {S T : Type 0} (s : Result S StoreFault) (r : Result T StoreFault) (f : StoreFault) → Called old new s → s ≡ Err f → r ≡ Err f → Called old new r
  called_err s r f c was is =
      let at = subst (Called old new) was c in
      subst (Called old new) (sym is) (record {
        origin = at.origin;
        live = at.live;
        cause = record {
          later = at.cause.later;
          passed = tt;
          failed = λ x h. let e : f ≡ x = cc h in
              subst (λ (y : StoreFault). Because old.faults new.faults old.damage new.damage (damage_of y)) e (at.cause.failed f refl);
        };
        guarded = at.guarded;
      })

  module _ (g : Request) (place : ℕ) (bytes : List ℕ) (inode : Option Inode) (works : KeepsWorking old new) where
    found_none : (found : Option Found) → TellsInode g place bytes inode (Ok found) → damage_of_inode inode ≡ None
    found_none None tells = ap damage_of_inode tells
    found_none (Some f) tells = ap damage_of_inode tells.0

    pub meets_ok : {T : Type 0} (found : Option Found) (v : T) → TellsInode g place bytes inode (Ok found) → Meets (damage_of_inode inode) old new (Ok v)
    meets_ok found v tells = record { none = found_none found tells; that = λ d h. absurd (cc h); keeps = λ d h. works }

    that_damage : (f : StoreFault) (d : Damage) → TellsInode g place bytes inode (Err f) → f ≡ Damaged d → damage_of_inode inode ≡ Some d
    that_damage Device d tells e = absurd (cc e)
    that_damage (Damaged x) d tells e = ap damage_of_inode tells ∙ ap (λ (y : Damage). Some y) (cc e)

    pub meets_err : {T : Type 0} (s : Result (Option Found) StoreFault) (r : Result T StoreFault) (f : StoreFault) → TellsInode g place bytes inode s → s ≡ Err f → r ≡ Err f
        → Meets (damage_of_inode inode) old new r
    meets_err s r f tells was is =
        let at = subst (TellsInode g place bytes inode) was tells in
        subst (Meets (damage_of_inode inode) old new) (sym is) (record {
          none = tt;
          that = λ d h. that_damage f d at (cc h);
          keeps = λ d h. works;
        })

pub place_found : (g : Request) (place : ℕ) (bytes : List ℕ) (inode : Option Inode) (found : Option Found) (b : ℕ) → is_some inode ≡ true
    → TellsInode g place bytes inode (Ok found) → IfSome found (λ f. b ≡ f.block) → b ≡ place
place_found g place bytes inode None b there tells is = absurd (cc (sym there ∙ ap is_some tells))
place_found g place bytes inode (Some f) b there tells is = is ∙ tells.1

pub head_found : (v : View) (n : ℕ) (g : Request) (place : ℕ) (bytes : List ℕ) (found : Option Found) → TellsInode g place bytes (v.inodes n) (Ok found)
    → IsHeadAt v n (found_head found)
head_found v n g place bytes None tells = record { head = sym (ap head_of_inode tells); absent = λ h. tells }
head_found v n g place bytes (Some f) tells = record { head = sym (ap head_of_inode tells.0); absent = λ h. absurd (cc h) }

pub head_keeps : (found : Option Found) → IfSome found (λ f. is_head f.head ≡ true) → is_head_or_none (found_head found) ≡ true
head_keeps None rules = refl
head_keeps (Some f) rules = rules

pub entry_found : (g : Request) (place : ℕ) (bytes : List ℕ) (inode : Option Inode) (found : Option Found) (i b : ℕ) → is_some inode ≡ true
    → TellsInode g place bytes inode (Ok found) → i < entries_of g → b ≡ number_at (32 + 4 * i) 4 bytes → b ≡ slice_index (entries_of_inode inode) i
entry_found g place bytes inode None i b there tells below is = absurd (cc (sym there ∙ ap is_some tells))
entry_found g place bytes inode (Some f) i b there tells below is =
    is ∙ sym (get_or-map-range_with_len (λ j. number_at (32 + 4 * j) 4 bytes) 0 (entries_of g) i i 0 below (omega arith))
    ∙ sym (ap (λ (x : Option Inode). slice_index (entries_of_inode x) i) tells.0)
