use Rattle.std.proofs.Common.{◌≡◌, ℕ, suc, ◌+◌, ◌-◌, ◌<◌, ◌≤◌, ◌*◌, ◌/◌, ◌%◌, List, [], ◌∷◌, length, take, drop, get_or, map, Result, Ok, Err, IsOk, OnOk, refl, ap, ◌∙◌, arith}
use Rattle.std.specs.List.{range_with_len}
use Rattle.std.proofs.lemmas.List.{take_all, length-take, length-drop}
use Rattle.std.proofs.lemmas.List.FromFn.{get_or-map-range_with_len}
use Rattle.hex.specs.Hex.{encode_with, encode_lower, lower_digits}
use Rattle.edge_script.specs.Bytes.{digit_of, hex_of}
use Rattle.edge_script.proofs.CodeLaws.{behind_mid}
use Rattle.edge_script.proofs.SpellingLaws.{hex_long}
use Rattle.edge_script.proofs.reply.put_hex.Goals as goal

digits-are : lower_digits ≡ map digit_of (range_with_len 0 16)
digits-are = refl

digit_at : (n : ℕ) → n < 16 → get_or lower_digits n 0 ≡ digit_of n
digit_at n h = ap (λ (digits : List ℕ). get_or digits n 0) digits-are ∙ get_or-map-range_with_len digit_of 0 16 n n 0 h (omega arith)

encoded : (bytes : List ℕ) → ((i : ℕ) → get_or bytes i 0 < 256) → encode_lower bytes ≡ hex_of bytes
unfolding encode_with
encoded [] h = refl
encoded (b ∷ bytes) h =
    let small : b < 256 = h 0 in
    λ i. digit_at (b / 16) (omega arith) i ∷ digit_at (b % 16) (omega arith) i ∷ encoded bytes (λ k. h (suc k)) i

when_ok : {E : Type 0} (r : Result (Unit {0}) E) (P : Type 0) → IsOk r → OnOk r P → P
when_ok (Ok done) P is h = h
when_ok (Err e) P is h = absurd (cc)

-- the part that is written has room for two digits a byte
part_long : (out : List ℕ) (at n : ℕ) → at + n ≤ length out → length (take (at + n - at) (drop at out)) ≡ n
part_long out at n h = simp (length-take, length-drop) (omega arith)

pub returns-clause-text : goal.returns-clause-text
returns-clause-text c =
    let bytes = c.args.bytes.now in
    let out = c.encode_to_slice.new.output in
    let is_ok = c.encode_to_slice.ensures.fits.1 (part_long c.args.out.now c.args.at (2 * length bytes) c.requires) in
    let is = when_ok c.encode_to_slice.result (out ≡ encode_lower bytes) is_ok c.encode_to_slice.ensures.written
    ∙ encoded bytes (λ i. omega (arith, c.type_inv.bytes i)) in
    let long = ap length is ∙ hex_long bytes in
    behind_mid c.args.out.now out (hex_of bytes) c.args.at _ (2 * length bytes) (omega arith) (omega arith) (take_all (2 * length bytes) out (omega arith) ∙ is)
