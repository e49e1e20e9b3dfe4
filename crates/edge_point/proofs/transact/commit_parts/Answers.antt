use Rattle.std.proofs.Common.{refl, arith}
use Rattle.edge_mount.proofs.WholeLaws.{length-back}
use Rattle.edge_point.specs.Seen.{anchor_of}
use Rattle.edge_point.proofs.transact.commit_parts.Goals as goal

pub returns-clause-rest : goal.returns-clause-rest
returns-clause-rest g c = record {
  master = refl;
  place = refl;
  root = refl;
  points = refl;
  numbers = refl;
  next = refl;
  live = refl;
  torn = refl;
  damage = refl;
  block = length-back c.args.p.now.block.len c.commit.new.block c.args.p.now.block.items (omega arith) c.args.p.now.block.ok.0;
}

pub returns-clause-cut : goal.returns-clause-cut
returns-clause-cut g c = c.commit.ensures.cut (anchor_of g.D.Disk c.args.p.now)

pub returns-clause-committed : goal.returns-clause-committed
returns-clause-committed g c = c.commit.ensures.committed (anchor_of g.D.Disk c.args.p.now)

pub returns-clause-shown : goal.returns-clause-shown
returns-clause-shown g c = c.commit.ensures.shown (anchor_of g.D.Disk c.args.p.now)
