-- That the peer's MIC over a list of mechanisms was verified, that the peer is a guest, who needs
-- none, or that no MIC was made or verified at all.
use Rattle.std.specs.Prelude.{◌≡◌, ℕ, List, Some, true}
use Rattle.sspi_names.specs.Name.{Name, inner_of}
use Rattle.sspi_mech.specs.Calls.{Counts, ToVerify, one_signing, one_verification}
use Rattle.sspi_mech.specs.Meaning.{Meaning}
use Rattle.sspi_tokens.specs.Spelling.{spelled_list}
use Rattle.sspi_negotiate.specs.Hand.{Origin}
use Rattle.sspi_negotiate.specs.Rows.{is_guest_text}

-- no MIC was made or verified
pub record HasNoMic (n : Counts) : Type 0 where
  pub signings : n.signings ≡ 0
  pub verifications : n.verifications ≡ 0

-- what is left of a mechanism: itself, or itself after making one more MIC
pub data Leaves {M : Type 0} (c : Meaning Origin M) (m left : M) : Type 0 where
  as_it_was : left ≡ m → Leaves c m left
  having_signed : left ≡ c.counted m (one_signing (c.counts m)) → Leaves c m left

-- The mechanism that is left selected verified this MIC as the peer's next one, over the list;
-- since then it has made at most its own.
pub record IsVerified {M : Type 0} (c : Meaning Origin M) (list : List (List ℕ)) (left : M) : Type 0
  where
    pub before : M
    pub after : M
    pub mic : List ℕ
    pub text : List ℕ
    pub spelled : spelled_list list ≡ Some text
    pub permitted : c.permits before (ToVerify mic text)
    pub verified : c.verifies after (c.counts before).verifications mic text
    pub counted : after ≡ c.counted before (one_verification (c.counts before))
    pub last : Leaves c after left

-- the peer is a guest by the name that the mechanism gives for it
pub record IsGuestNamed {M : Type 0} (c : Meaning Origin M) (m : M) : Type 0 where
  pub name : Name
  pub named : c.names m ≡ Some name
  pub is_guest : is_guest_text (inner_of name) ≡ true
