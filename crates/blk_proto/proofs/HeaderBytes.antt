-- What stands in a header's bytes: its fields, and nothing else.
use Rattle.std.proofs.Common.{◌≡◌, ℕ, ◌++◌, List, [], length, refl, sym, ap, subst, ◌∙◌}
use Rattle.byteorder.specs.Endian.{little_bytes}
use Rattle.byteorder.specs.Numbers.{little_number-reads_back}
use Rattle.blk_proto.specs.Headers.{header_bytes, IsAt, Fits}
use Rattle.blk_proto.specs.declared.header.Header.{Header}

is_at : (h : Header) → Fits h → IsAt (header_bytes h) h
unfolding header_bytes
is_at h fits = record {
  kind = sym (little_number-reads_back 4 h.kind (little_bytes 4 h.reserved ++ little_bytes 8 h.sector) fits.kind);
  reserved = sym (little_number-reads_back 4 h.reserved (little_bytes 8 h.sector) fits.reserved);
  sector = sym (little_number-reads_back 8 h.sector [] fits.sector);
}

has_16 : (h : Header) → length (header_bytes h) ≡ 16
unfolding header_bytes
has_16 h = refl

-- bytes that are a header's have its fields
pub at_header : (bytes : List ℕ) (h : Header) → Fits h → bytes ≡ header_bytes h → IsAt bytes h
at_header bytes h fits is = subst (λ (xs : List ℕ). IsAt xs h) (sym is) (is_at h fits)

pub length-header : (bytes : List ℕ) (h : Header) → bytes ≡ header_bytes h → length bytes ≡ 16
length-header bytes h is = ap length is ∙ has_16 h

-- the bytes determine the header
pub same_header : (bytes : List ℕ) (a b : Header) → IsAt bytes a → IsAt bytes b → a ≡ b
same_header bytes a b p q =
    let same : ◌≡◌ {A = Header} (record { kind = a.kind; reserved = a.reserved; sector = a.sector }) (record { kind = b.kind; reserved = b.reserved; sector = b.sector }) = cc in
    same
