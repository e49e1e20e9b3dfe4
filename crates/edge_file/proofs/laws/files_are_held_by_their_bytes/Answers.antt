use Rattle.edge_moves.proofs.SlotLaws.{entries_fit, some_pointers_fit}
use Rattle.edge_file.proofs.FileLaws.{file_byte, file_run, file_written, file_shortened, file_lengthened}
use Rattle.edge_file.proofs.DirectoryLaws.{directory_byte, directory_run}
use Rattle.edge_file.proofs.StepLaws.{some_bytes}
use Rattle.edge_file.proofs.laws.files_are_held_by_their_bytes.Goals as goal

pub returns-clause-byte : goal.returns-clause-byte
returns-clause-byte c g v n k text present geometry view is holds zeros low = file_byte g v n text present (entries_fit g geometry) (some_pointers_fit g geometry) (some_bytes g (some_pointers_fit g geometry)) view is holds zeros k low

pub returns-clause-run : goal.returns-clause-run
returns-clause-run c g v n at len text present geometry view is holds zeros low fits =
    file_run g v n text present (entries_fit g geometry) (some_pointers_fit g geometry) (some_bytes g (some_pointers_fit g geometry)) view is holds zeros at len low fits

pub returns-clause-written : goal.returns-clause-written
returns-clause-written c g past v w n at new text after present flags geometry view view_w is is_w holds zeros written put blocks =
    file_written g v n text present (entries_fit g geometry) (some_pointers_fit g geometry) (some_bytes g (some_pointers_fit g geometry)) view is holds zeros past w at new view_w is_w written after flags put blocks

pub returns-clause-shortened : goal.returns-clause-shortened
returns-clause-shortened c g past v w n size text after present flags geometry view is holds zeros short put blocks =
    file_shortened g v n text present (entries_fit g geometry) (some_pointers_fit g geometry) (some_bytes g (some_pointers_fit g geometry)) view is holds zeros past w size short after flags put blocks

pub returns-clause-lengthened : goal.returns-clause-lengthened
returns-clause-lengthened c g v w n text after present flags holds kept same blocks = file_lengthened g v v w n text after present flags holds kept same blocks

pub returns-clause-directory : goal.returns-clause-directory
returns-clause-directory c g v n k slots parent geometry view is holds low =
    directory_byte g v n slots parent (entries_fit g geometry) (some_pointers_fit g geometry) (some_bytes g (some_pointers_fit g geometry)) view is holds k low

pub returns-clause-directory_run : goal.returns-clause-directory_run
returns-clause-directory_run c g v n at len slots parent geometry view is holds within =
    directory_run g v n slots parent (entries_fit g geometry) (some_pointers_fit g geometry) (some_bytes g (some_pointers_fit g geometry)) view is holds at len within
