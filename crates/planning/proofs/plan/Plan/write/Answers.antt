use Rattle.std.proofs.Common.{◌++◌, ◌∷◌, ◌∙◌, [], List, length, refl, sym, ap, arith, length-append, append_assoc}
use Rattle.std.proofs.lemmas.Result.{err_from_is_err_and}
use Rattle.drive.specs.Journal.{next_of}
use Rattle.drive.specs.Waiting.{Waiting, next_address}
use Rattle.planning.specs.declared.layout.PlacedDirectory.{PlacedDirectory}
use Rattle.planning.specs.Plan.{file_list, directories_list, table_data, node_list, plan_blocks}
use Rattle.drive.proofs.Packing.{stops_longer}
use Rattle.planning.proofs.Plans.{plan_ends}
use Rattle.drive.proofs.Reading.{writes_then}
use Rattle.drive.proofs.Turns.{turn_whole, turn_cut}
use Rattle.planning.proofs.Puttings.{takes_both, stops_first, stops_second, takes_written, stops_front, takes_fronted, alone_before, alone_after}
use Rattle.planning.proofs.plan.Plan.write.Goals as goal

pub write_file-requires-clause-begins : goal.write_file-requires-clause-begins
write_file-requires-clause-begins g c = omega (arith, ap (λ (w : Waiting). w.at) (c.hold.ensures ∙ c.requires.plan.begins))

pub write_file-requires-clause-fits : goal.write_file-requires-clause-fits
write_file-requires-clause-fits g c =
    let p = c.args.self.now in
    let next = next_of (g.D.Drive.journal c.args.drive.now) in
    let table = table_data p.table ++ p.table.entry ∷ [] in
    omega (
      arith,
      ap next_address (c.hold.ensures ∙ c.requires.plan.begins),
      plan_ends next (g.D.Drive.capacity c.args.drive.now) p c.requires.plan,
      c.requires.plan.fits,
      length-append (node_list p) table,
      length-append (file_list p.file) (directories_list p.directories.items),
    )

pub write_directories-requires-clause-begins : goal.write_directories-requires-clause-begins
write_directories-requires-clause-begins g c = c.in_ok-write_file.ensures.ok.begins (omega (arith, ap (λ (w : Waiting). w.at) (c.hold.ensures ∙ c.requires.plan.begins)))

pub write_directories-requires-clause-fits : goal.write_directories-requires-clause-fits
write_directories-requires-clause-fits g c =
    let p = c.args.self.now in
    let next = next_of (g.D.Drive.journal c.args.drive.now) in
    let table = table_data p.table ++ p.table.entry ∷ [] in
    omega (
      arith,
      ap next_address (c.hold.ensures ∙ c.requires.plan.begins),
      plan_ends next (g.D.Drive.capacity c.args.drive.now) p c.requires.plan,
      c.requires.plan.fits,
      length-append (node_list p) table,
      length-append (file_list p.file) (directories_list p.directories.items),
      c.in_ok-write_file.ensures.ok.ends,
      c.write_file.ensures.writes.capacity,
      ap (λ (ds : List PlacedDirectory). length (directories_list ds)) c.deref.ensures.value,
    )

pub write_table-requires-clause-begins : goal.write_table-requires-clause-begins
write_table-requires-clause-begins g c =
    c.in_ok-write_directories.ensures.ok.begins (c.in_ok-write_file.ensures.ok.begins (omega (arith, ap (λ (w : Waiting). w.at) (c.hold.ensures ∙ c.requires.plan.begins))))

pub write_table-requires-clause-fits : goal.write_table-requires-clause-fits
write_table-requires-clause-fits g c =
    let p = c.args.self.now in
    let next = next_of (g.D.Drive.journal c.args.drive.now) in
    let table = table_data p.table ++ p.table.entry ∷ [] in
    omega (
      arith,
      ap next_address (c.hold.ensures ∙ c.requires.plan.begins),
      plan_ends next (g.D.Drive.capacity c.args.drive.now) p c.requires.plan,
      c.requires.plan.fits,
      length-append (node_list p) table,
      length-append (file_list p.file) (directories_list p.directories.items),
      c.in_ok-write_file.ensures.ok.ends,
      c.write_file.ensures.writes.capacity,
      ap (λ (ds : List PlacedDirectory). length (directories_list ds)) c.deref.ensures.value,
      c.in_ok-write_directories.ensures.ok.ends,
      c.write_directories.ensures.writes.capacity,
    )

pub finish_alone-requires-clause-one : goal.finish_alone-requires-clause-one
finish_alone-requires-clause-one g c = ap length c.in_ok-write_table.ensures.waits

pub finish_alone-requires-clause-begins : goal.finish_alone-requires-clause-begins
finish_alone-requires-clause-begins g c =
    c.in_ok-write_table.ensures.ok.begins (c.in_ok-write_directories.ensures.ok.begins (c.in_ok-write_file.ensures.ok.begins (omega (arith, ap (λ (w : Waiting). w.at) (c.hold.ensures ∙ c.requires.plan.begins)))))

pub finish_alone-requires-clause-fits : goal.finish_alone-requires-clause-fits
finish_alone-requires-clause-fits g c =
    let p = c.args.self.now in
    let next = next_of (g.D.Drive.journal c.args.drive.now) in
    let table = table_data p.table ++ p.table.entry ∷ [] in
    omega (
      arith,
      ap next_address (c.hold.ensures ∙ c.requires.plan.begins),
      plan_ends next (g.D.Drive.capacity c.args.drive.now) p c.requires.plan,
      c.requires.plan.fits,
      length-append (node_list p) table,
      length-append (file_list p.file) (directories_list p.directories.items),
      c.in_ok-write_file.ensures.ok.ends,
      c.write_file.ensures.writes.capacity,
      ap (λ (ds : List PlacedDirectory). length (directories_list ds)) c.deref.ensures.value,
      c.in_ok-write_directories.ensures.ok.ends,
      c.write_directories.ensures.writes.capacity,
      c.in_ok-write_table.ensures.ok.ends,
      c.write_table.ensures.writes.capacity,
    )

pub returns-in_err-write_file-clause-err : goal.returns-in_err-write_file-clause-err
returns-in_err-write_file-clause-err g c =
    let q = err_from_is_err_and c.from_residual.result c.from_residual.ensures.1 in
    let p = c.args.self.now in
    let J = c.args.drive.now in
    let J1 = c.write_file.new.drive in
    let w = c.hold.new.self.packets in
    let f = file_list p.file in
    let d = directories_list p.directories.items in
    let t = table_data p.table ++ p.table.entry ∷ [] in
    rw q.1 (stops_front J J1 (next_of (g.D.Drive.journal J)) w (plan_blocks p) (c.hold.ensures ∙ c.requires.plan.begins)
    (stops_first J J1 w f (d ++ t) (plan_blocks p) (sym (append_assoc f d t)) c.in_err-write_file.ensures.err))

pub returns-in_err-write_directories-clause-err : goal.returns-in_err-write_directories-clause-err
returns-in_err-write_directories-clause-err g c =
    let q = err_from_is_err_and c.from_residual-in_err-write_directories.result c.from_residual-in_err-write_directories.ensures.1 in
    let p = c.args.self.now in
    let J = c.args.drive.now in
    let J1 = c.write_file.new.drive in
    let J2 = c.write_directories.new.drive in
    let w = c.hold.new.self.packets in
    let f = file_list p.file in
    let ds = c.deref.result.now in
    let t = table_data p.table ++ p.table.entry ∷ [] in
    let nodes = ap (λ (es : List PlacedDirectory). f ++ directories_list es) c.deref.ensures.value in
    rw q.1 (stops_front J J2 (next_of (g.D.Drive.journal J)) w (plan_blocks p) (c.hold.ensures ∙ c.requires.plan.begins)
    (stops_first J J2 w (node_list p) t (plan_blocks p) refl
    (stops_second J J1 J2 w c.write_file.new.writer.packets f (directories_list ds) (node_list p) nodes c.in_ok-write_file.ensures.ok c.in_err-write_directories.ensures.err)))

pub returns-in_err-write_table-clause-err : goal.returns-in_err-write_table-clause-err
returns-in_err-write_table-clause-err g c =
    let q = err_from_is_err_and c.from_residual-in_err-write_table.result c.from_residual-in_err-write_table.ensures.1 in
    let p = c.args.self.now in
    let J = c.args.drive.now in
    let J1 = c.write_file.new.drive in
    let J2 = c.write_directories.new.drive in
    let J3 = c.write_table.new.drive in
    let w = c.hold.new.self.packets in
    let w2 = c.write_directories.new.writer.packets in
    let f = file_list p.file in
    let ds = c.deref.result.now in
    let t = table_data p.table ++ p.table.entry ∷ [] in
    let nodes = ap (λ (es : List PlacedDirectory). f ++ directories_list es) c.deref.ensures.value in
    let both = takes_both J J1 J2 w c.write_file.new.writer.packets w2 f (directories_list ds) (node_list p) nodes c.in_ok-write_file.ensures.ok c.in_ok-write_directories.ensures.ok in
    rw q.1 (stops_front J J3 (next_of (g.D.Drive.journal J)) w (plan_blocks p) (c.hold.ensures ∙ c.requires.plan.begins)
    (stops_second J J2 J3 w w2 (node_list p) t (plan_blocks p) refl both (stops_longer J2 J3 w2 (table_data p.table) (p.table.entry ∷ []) c.in_err-write_table.ensures.err)))

pub returns-in_err-finish_alone-clause-err : goal.returns-in_err-finish_alone-clause-err
returns-in_err-finish_alone-clause-err g c =
    let q = err_from_is_err_and c.from_residual-in_err-finish_alone.result c.from_residual-in_err-finish_alone.ensures.1 in
    let p = c.args.self.now in
    let J = c.args.drive.now in
    let J1 = c.write_file.new.drive in
    let J2 = c.write_directories.new.drive in
    let J3 = c.write_table.new.drive in
    let w = c.hold.new.self.packets in
    let w2 = c.write_directories.new.writer.packets in
    let w3 = c.write_table.new.writer.packets in
    let f = file_list p.file in
    let ds = c.deref.result.now in
    let t = table_data p.table ++ p.table.entry ∷ [] in
    let nodes = ap (λ (es : List PlacedDirectory). f ++ directories_list es) c.deref.ensures.value in
    let both = takes_both J J1 J2 w c.write_file.new.writer.packets w2 f (directories_list ds) (node_list p) nodes c.in_ok-write_file.ensures.ok c.in_ok-write_directories.ensures.ok in
    let all = takes_both J J2 J3 w w2 w3 (node_list p) t (plan_blocks p) refl both c.in_ok-write_table.ensures.ok in
    rw q.1 (takes_fronted J J3 c.finish_alone.new.drive (next_of (g.D.Drive.journal J)) w w3 (plan_blocks p) (c.hold.ensures ∙ c.requires.plan.begins) all c.in_err-finish_alone.ensures.err c.finish_alone.ensures.sent)

pub returns-clause-ok : goal.returns-clause-ok
returns-clause-ok g c =
    let p = c.args.self.now in
    let J = c.args.drive.now in
    let J1 = c.write_file.new.drive in
    let J2 = c.write_directories.new.drive in
    let J3 = c.write_table.new.drive in
    let w = c.hold.new.self.packets in
    let w2 = c.write_directories.new.writer.packets in
    let w3 = c.write_table.new.writer.packets in
    let f = file_list p.file in
    let ds = c.deref.result.now in
    let t = table_data p.table ++ p.table.entry ∷ [] in
    let nodes = ap (λ (es : List PlacedDirectory). f ++ directories_list es) c.deref.ensures.value in
    let both = takes_both J J1 J2 w c.write_file.new.writer.packets w2 f (directories_list ds) (node_list p) nodes c.in_ok-write_file.ensures.ok c.in_ok-write_directories.ensures.ok in
    let all = takes_both J J2 J3 w w2 w3 (node_list p) t (plan_blocks p) refl both c.in_ok-write_table.ensures.ok in
    takes_written J J3 c.finish_alone.new.drive (next_of (g.D.Drive.journal J)) w w3 (plan_blocks p) (c.hold.ensures ∙ c.requires.plan.begins) all c.in_ok-finish_alone.ensures.ok

pub returns-in_err-write_file-clause-alone : goal.returns-in_err-write_file-clause-alone
returns-in_err-write_file-clause-alone g c =
    let q = err_from_is_err_and c.from_residual.result c.from_residual.ensures.1 in
    let p = c.args.self.now in
    let J = c.args.drive.now in
    let J1 = c.write_file.new.drive in
    let w = c.hold.new.self.packets in
    let f = file_list p.file in
    let d = directories_list p.directories.items in
    let t = table_data p.table in
    rw q.1 (alone_before J J1 (next_of (g.D.Drive.journal J)) w (node_list p ++ t) p.table.entry (c.hold.ensures ∙ c.requires.plan.begins)
    (stops_first J J1 w f (d ++ t) (node_list p ++ t) (sym (append_assoc f d t)) c.in_err-write_file.ensures.err))

pub returns-in_err-write_directories-clause-alone : goal.returns-in_err-write_directories-clause-alone
returns-in_err-write_directories-clause-alone g c =
    let q = err_from_is_err_and c.from_residual-in_err-write_directories.result c.from_residual-in_err-write_directories.ensures.1 in
    let p = c.args.self.now in
    let J = c.args.drive.now in
    let J1 = c.write_file.new.drive in
    let J2 = c.write_directories.new.drive in
    let w = c.hold.new.self.packets in
    let f = file_list p.file in
    let ds = c.deref.result.now in
    let t = table_data p.table in
    let nodes = ap (λ (es : List PlacedDirectory). f ++ directories_list es) c.deref.ensures.value in
    rw q.1 (alone_before J J2 (next_of (g.D.Drive.journal J)) w (node_list p ++ t) p.table.entry (c.hold.ensures ∙ c.requires.plan.begins)
    (stops_first J J2 w (node_list p) t (node_list p ++ t) refl
    (stops_second J J1 J2 w c.write_file.new.writer.packets f (directories_list ds) (node_list p) nodes c.in_ok-write_file.ensures.ok c.in_err-write_directories.ensures.err)))

pub returns-in_err-write_table-clause-alone : goal.returns-in_err-write_table-clause-alone
returns-in_err-write_table-clause-alone g c =
    let q = err_from_is_err_and c.from_residual-in_err-write_table.result c.from_residual-in_err-write_table.ensures.1 in
    let p = c.args.self.now in
    let J = c.args.drive.now in
    let J1 = c.write_file.new.drive in
    let J2 = c.write_directories.new.drive in
    let w = c.hold.new.self.packets in
    let f = file_list p.file in
    let ds = c.deref.result.now in
    let t = table_data p.table in
    let nodes = ap (λ (es : List PlacedDirectory). f ++ directories_list es) c.deref.ensures.value in
    let w2 = c.write_directories.new.writer.packets in
    let J3 = c.write_table.new.drive in
    let both = takes_both J J1 J2 w c.write_file.new.writer.packets w2 f (directories_list ds) (node_list p) nodes c.in_ok-write_file.ensures.ok c.in_ok-write_directories.ensures.ok in
    rw q.1 (alone_before J J3 (next_of (g.D.Drive.journal J)) w (node_list p ++ t) p.table.entry (c.hold.ensures ∙ c.requires.plan.begins)
    (stops_second J J2 J3 w w2 (node_list p) t (node_list p ++ t) refl both c.in_err-write_table.ensures.err))

pub returns-in_err-finish_alone-clause-alone : goal.returns-in_err-finish_alone-clause-alone
returns-in_err-finish_alone-clause-alone g c =
    let q = err_from_is_err_and c.from_residual-in_err-finish_alone.result c.from_residual-in_err-finish_alone.ensures.1 in
    let p = c.args.self.now in
    let J = c.args.drive.now in
    let J1 = c.write_file.new.drive in
    let J2 = c.write_directories.new.drive in
    let w = c.hold.new.self.packets in
    let f = file_list p.file in
    let ds = c.deref.result.now in
    let t = table_data p.table in
    let nodes = ap (λ (es : List PlacedDirectory). f ++ directories_list es) c.deref.ensures.value in
    let w2 = c.write_directories.new.writer.packets in
    let J3 = c.write_table.new.drive in
    let both = takes_both J J1 J2 w c.write_file.new.writer.packets w2 f (directories_list ds) (node_list p) nodes c.in_ok-write_file.ensures.ok c.in_ok-write_directories.ensures.ok in
    let w3 = c.write_table.new.writer.packets in
    let e = p.table.entry in
    let all = takes_both J J2 J3 w w2 w3 (node_list p) (t ++ e ∷ []) ((node_list p ++ t) ++ e ∷ []) (sym (append_assoc (node_list p) t (e ∷ []))) both c.in_ok-write_table.ensures.ok in
    rw q.1 (alone_after J J3 c.finish_alone.new.drive (next_of (g.D.Drive.journal J)) w w3 (node_list p ++ t) e (c.hold.ensures ∙ c.requires.plan.begins) all c.in_ok-write_table.ensures.waits
    (turn_cut w3.blocks c.in_err-finish_alone.ensures.err) c.finish_alone.ensures.sent)

pub returns-clause-alone : goal.returns-clause-alone
returns-clause-alone g c =
    let p = c.args.self.now in
    let J = c.args.drive.now in
    let J1 = c.write_file.new.drive in
    let J2 = c.write_directories.new.drive in
    let w = c.hold.new.self.packets in
    let f = file_list p.file in
    let ds = c.deref.result.now in
    let t = table_data p.table in
    let nodes = ap (λ (es : List PlacedDirectory). f ++ directories_list es) c.deref.ensures.value in
    let w2 = c.write_directories.new.writer.packets in
    let J3 = c.write_table.new.drive in
    let both = takes_both J J1 J2 w c.write_file.new.writer.packets w2 f (directories_list ds) (node_list p) nodes c.in_ok-write_file.ensures.ok c.in_ok-write_directories.ensures.ok in
    let w3 = c.write_table.new.writer.packets in
    let e = p.table.entry in
    let all = takes_both J J2 J3 w w2 w3 (node_list p) (t ++ e ∷ []) ((node_list p ++ t) ++ e ∷ []) (sym (append_assoc (node_list p) t (e ∷ []))) both c.in_ok-write_table.ensures.ok in
    alone_after J J3 c.finish_alone.new.drive (next_of (g.D.Drive.journal J)) w w3 (node_list p ++ t) e (c.hold.ensures ∙ c.requires.plan.begins) all c.in_ok-write_table.ensures.waits
    (turn_whole w3.blocks c.in_ok-finish_alone.ensures.ok) c.finish_alone.ensures.sent

pub returns-in_err-write_directories-clause-writes : goal.returns-in_err-write_directories-clause-writes
returns-in_err-write_directories-clause-writes g c =
    let failed = err_from_is_err_and c.from_residual-in_err-write_directories.result c.from_residual-in_err-write_directories.ensures.1 in
    rw failed.1 (writes_then c.in_ok-write_file.ensures.writes c.in_err-write_directories.ensures.writes)

pub returns-in_err-finish_alone-clause-writes : goal.returns-in_err-finish_alone-clause-writes
returns-in_err-finish_alone-clause-writes g c =
    let failed = err_from_is_err_and c.from_residual-in_err-finish_alone.result c.from_residual-in_err-finish_alone.ensures.1 in
    rw failed.1 (writes_then (writes_then (writes_then c.in_ok-write_file.ensures.writes c.in_ok-write_directories.ensures.writes) c.in_ok-write_table.ensures.writes) c.in_err-finish_alone.ensures.writes)

pub returns-clause-writes : goal.returns-clause-writes
returns-clause-writes g c =
    writes_then (writes_then (writes_then c.in_ok-write_file.ensures.writes c.in_ok-write_directories.ensures.writes) c.in_ok-write_table.ensures.writes) c.in_ok-finish_alone.ensures.writes
