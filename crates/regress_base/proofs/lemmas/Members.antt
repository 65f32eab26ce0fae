-- Lemmas on membership, index by index. Their comments are where they are proved.
pub use Rattle.regress_base.proofs.MemberLemmas.{is_member-nowhere}
