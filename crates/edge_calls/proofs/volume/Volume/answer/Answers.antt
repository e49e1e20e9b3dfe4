use Rattle.edge_calls.proofs.volume.Volume.answer.Goals as goal

pub returns-in-OpenFile-clause-did : goal.returns-in-OpenFile-clause-did
returns-in-OpenFile-clause-did g c = rw c.in-OpenFile.is (c.open_file.ensures.did c.args.out.now)

pub returns-in-Close-clause-did : goal.returns-in-Close-clause-did
returns-in-Close-clause-did g c = rw c.in-Close.is (c.close.ensures.did c.args.out.now)

pub returns-in-Read-clause-did : goal.returns-in-Read-clause-did
returns-in-Read-clause-did g c = rw c.in-Read.is c.read.ensures.did

pub returns-in-Write-clause-did : goal.returns-in-Write-clause-did
returns-in-Write-clause-did g c = rw c.in-Write.is (c.write.ensures.did c.args.out.now)

pub returns-in-Fill-clause-did : goal.returns-in-Fill-clause-did
returns-in-Fill-clause-did g c = rw c.in-Fill.is (c.fill.ensures.did c.args.out.now)

pub returns-in-Seek-clause-did : goal.returns-in-Seek-clause-did
returns-in-Seek-clause-did g c = rw c.in-Seek.is (c.seek.ensures.did c.args.out.now)

pub returns-in-Truncate-clause-did : goal.returns-in-Truncate-clause-did
returns-in-Truncate-clause-did g c = rw c.in-Truncate.is (c.truncate.ensures.did c.args.out.now)

pub returns-in-Fsync-clause-did : goal.returns-in-Fsync-clause-did
returns-in-Fsync-clause-did g c = rw c.in-Fsync.is (c.fsync.ensures.did c.args.out.now)

pub returns-in-Link-clause-did : goal.returns-in-Link-clause-did
returns-in-Link-clause-did g c = rw c.in-Link.is (c.link.ensures.did c.args.out.now)

pub returns-in-Unlink-clause-did : goal.returns-in-Unlink-clause-did
returns-in-Unlink-clause-did g c = rw c.in-Unlink.is (c.unlink.ensures.did c.args.out.now)

pub returns-in-Rename-clause-did : goal.returns-in-Rename-clause-did
returns-in-Rename-clause-did g c = rw c.in-Rename.is (c.rename.ensures.did c.args.out.now)

pub returns-in-MakeDir-clause-did : goal.returns-in-MakeDir-clause-did
returns-in-MakeDir-clause-did g c = rw c.in-MakeDir.is (c.make_dir.ensures.did c.args.out.now)

pub returns-in-RemoveDir-clause-did : goal.returns-in-RemoveDir-clause-did
returns-in-RemoveDir-clause-did g c = rw c.in-RemoveDir.is (c.remove_dir.ensures.did c.args.out.now)

pub returns-in-OpenDir-clause-did : goal.returns-in-OpenDir-clause-did
returns-in-OpenDir-clause-did g c = rw c.in-OpenDir.is (c.open_dir.ensures.did c.args.out.now)

pub returns-in-ReadDir-clause-did : goal.returns-in-ReadDir-clause-did
returns-in-ReadDir-clause-did g c = rw c.in-ReadDir.is c.read_dir.ensures.did

pub returns-in-Rewind-clause-did : goal.returns-in-Rewind-clause-did
returns-in-Rewind-clause-did g c = rw c.in-Rewind.is (c.rewind.ensures.did c.args.out.now)

pub returns-in-Stat-clause-did : goal.returns-in-Stat-clause-did
returns-in-Stat-clause-did g c = rw c.in-Stat.is (c.stat.ensures.did c.args.out.now)

pub returns-in-Fstat-clause-did : goal.returns-in-Fstat-clause-did
returns-in-Fstat-clause-did g c = rw c.in-Fstat.is (c.fstat.ensures.did c.args.out.now)

pub returns-in-Space-clause-did : goal.returns-in-Space-clause-did
returns-in-Space-clause-did g c = rw c.in-Space.is (c.space.ensures.did c.args.out.now)

pub returns-in-Mask-clause-did : goal.returns-in-Mask-clause-did
returns-in-Mask-clause-did g c = rw c.in-Mask.is (c.tell_mask.ensures.did c.args.out.now)

pub returns-in-SetMask-clause-did : goal.returns-in-SetMask-clause-did
returns-in-SetMask-clause-did g c = rw c.in-SetMask.is (c.set_mask.ensures.did c.args.out.now)

pub returns-in-Transact-clause-did : goal.returns-in-Transact-clause-did
returns-in-Transact-clause-did g c = rw c.in-Transact.is (c.transact.ensures.did c.args.out.now)
