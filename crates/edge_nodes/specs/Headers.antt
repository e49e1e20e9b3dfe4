-- What every node begins with.
use Rattle.std.specs.Prelude.{ℕ, ◌==◌, not, if◌then◌else◌, List, drop, Result, Ok, Err}
use Rattle.edge_base.specs.declared.node.NodeFault.{NodeFault}
use Rattle.edge_base.specs.declared.node.NodeFault.TheVariants.{WrongSignature, WrongWord}
use Rattle.edge_base.specs.layout.Word.{check_word_of}
use Rattle.edge_base.specs.layout.Bytes.{number_at, signature_in}

-- whether the block begins with the signature and its check word is right, or the fault
abbrev pub header_in : ℕ → List ℕ → Result (Unit {0}) NodeFault
header_in signature b =
    if not (signature_in b == signature) then Err WrongSignature
    else if not (number_at 4 4 b == check_word_of (drop 8 b)) then Err WrongWord
    else Ok tt
