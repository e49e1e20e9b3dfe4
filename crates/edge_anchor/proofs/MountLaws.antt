-- A volume that was just mounted.
use Rattle.std.proofs.Common.{◌≡◌, ℕ, ◌<◌, None, refl, sym, subst}
use Rattle.edge_base.specs.declared.node.Master.{Master}
use Rattle.edge_disk.specs.State.{shown_by}
use Rattle.edge_image.specs.Image.{Live}
use Rattle.edge_image.specs.Ready.{IsMountable}
use Rattle.edge_anchor.specs.Anchor.{Anchor, HangsOn, IsOn, Loses, anchor_in, spare_of}
use Rattle.edge_anchor.specs.Medium.{Medium, IsCommitted}
use Rattle.edge_anchor.proofs.CutLaws.{SureIsShown}
use Rattle.edge_anchor.proofs.HangLaws.{each_imap, within_limits, spare_low, low_there, needed_there}
use Rattle.edge_anchor.proofs.LiveLaws.{live_root}

module _ (m : Medium) (master : Master) (live : Live) (is : IsMountable (shown_by m.disk) master live) where
  abbrev mounted : Anchor
  mounted = anchor_in (shown_by m.disk) master live

  pub mounted_on : IsOn m.disk.origin mounted
  mounted_on = record { size = is.size; blocks = is.fits; place = (live_root mounted (shown_by m.disk) is.is_live).place }

  mounted_hangs : HangsOn mounted m.disk.shown
  mounted_hangs = record {
    master = is.is_master;
    nodes = each_imap master.geometry mounted.roots m.disk.shown is.imap_nodes;
    bits = λ b has. refl;
    free_blocks = is.free_blocks;
    free_inodes = is.free_inodes;
  }

  pub mounted_committed : SureIsShown m → ((k : ℕ) → k < m.disk.origin.blocks → m.disk.is_sure k) → ((k : ℕ) → m.waits k ≡ None) → IsCommitted mounted m
  mounted_committed law sure clean =
      let root = live_root mounted (shown_by m.disk) is.is_live in
      let bounds = within_limits mounted m.disk.shown mounted_hangs in
      let there = needed_there m.disk.origin mounted mounted_on bounds in
      let spare = spare_of mounted in
      let below = low_there m.disk.origin mounted mounted_on bounds spare (spare_low m.disk.origin mounted mounted_on).1 in
      record {
        hangs = mounted_hangs;
        root = record { spells = root.spells; roots = refl };
        needed = record { sure = λ k needs. sure k (there k needs); idle = λ k needs. clean k };
        spare = record {
          candidates = λ c may. subst (Loses mounted) (sym (law spare c (sure spare below) may)) root.loses;
          waiting = λ c e. absurd (cc (clean spare, e));
        };
      }
