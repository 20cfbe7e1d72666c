use Rattle.std.proofs.Common.{drop, take, sym, subst}
use Rattle.std.proofs.lemmas.Result.{err_from_is_err_and}
use Rattle.rv32_isa.specs.Image.{Image}
use Rattle.elf32.specs.declared.file.ElfFault.TheVariants.{Note}
use Rattle.elf32.specs.Elf.{Elf}
use Rattle.elf32.specs.Faults.{HasSegments}
use Rattle.elf32.specs.Reading.{SaysNote, SaysNone}
use Rattle.elf32.proofs.Segments.{fields_told}
use Rattle.elf32.proofs.Faulty.{segment_stops, note_stops}
use Rattle.elf32.proofs.NoteRead.{because}
use Rattle.elf32.proofs.WholeFile.{no_file, elf_by_parts}
use Rattle.elf32.proofs.reader.read.Goals as goal

pub returns-in_err-sizes-clause-bad : goal.returns-in_err-sizes-clause-bad
returns-in_err-sizes-clause-bad c =
    let p = err_from_is_err_and c.from_residual-in_err-sizes.result c.from_residual-in_err-sizes.ensures.1 in
    rw (p.1, p.2) (segment_stops c.args.bytes.now _ c.in_ok-check_header.ensures.long c.in_ok-check_header.ensures.header c.in_err-sizes.ensures.bad)

pub returns-in_err-said-clause-bad : goal.returns-in_err-said-clause-bad
returns-in_err-said-clause-bad c =
    let bytes = c.args.bytes.now in
    let s = c.in_ok-sizes.sizes in
    let sizes = c.in_ok-sizes.ensures.sizes in
    let spelled = c.in_ok-sizes.ensures.spelled in
    let segments : HasSegments bytes = record {
      note = s.note;
      code = s.code;
      statics = s.statics;
      heap = s.heap;
      stack = s.stack;
      sizes = sizes;
      spelled = spelled;
    } in
    let p = err_from_is_err_and c.from_residual-in_err-said.result c.from_residual-in_err-said.ensures.1 in
    rw (p.1, p.2) (note_stops bytes _ c.in_ok-check_header.ensures.long c.in_ok-check_header.ensures.header segments
    (because _ Note (λ none. no_file bytes s.note s.code s.statics s.heap s.stack (fields_told bytes s.note s.code s.statics s.heap s.stack sizes spelled)
    (subst (SaysNone s.code) c.part-note.ensures none)) c.in_err-said.ensures.bad))

pub returns-clause-ok : goal.returns-clause-ok
returns-clause-ok c =
    let bytes = c.args.bytes.now in
    let s = c.in_ok-sizes.sizes in
    let hooks = c.in_ok-said.said.hooks in
    let plan = c.in_ok-said.said.plan in
    let says : SaysNote s.code (take s.note (drop 212 bytes)) hooks plan =
    subst (λ note. SaysNote s.code note hooks plan) c.part-note.ensures c.in_ok-said.ensures.ok in
    subst (λ (image : Image). Elf bytes (record { image = image; version = 1; plan = plan })) (sym c.in_ok-image.ensures)
    (elf_by_parts bytes s.note s.code s.statics s.heap s.stack hooks plan c.in_ok-check_header.ensures.header c.in_ok-sizes.ensures.spelled
    c.in_ok-sizes.ensures.sizes says)
