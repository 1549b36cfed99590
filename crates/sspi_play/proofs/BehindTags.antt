-- If two mechanisms open a blob to what follows its tag, so does a context over both; and what such
-- a context has opened is what its turns show.
use Rattle.std.proofs.Common.{◌≡◌, ℕ, Bool, true, false, List, [], ◌∷◌, drop, Option, None, Some, refl, ◌∙◌, ap}
use Rattle.sspi_mech.specs.Kerberos.{kerberos_meaning}
use Rattle.sspi_mech.specs.Meaning.{Meaning}
use Rattle.sspi_mech.specs.Ntlm.{ntlm_meaning}
use Rattle.sspi_mech.specs.Settings.{Setting}
use Rattle.sspi_mech.proofs.KerberosProtected as kerberos
use Rattle.sspi_mech.proofs.Protected as ntlm
use Rattle.sspi_negotiate.specs.declared.protocol.NegotiatedProtocol.{NegotiatedProtocol}
use Rattle.sspi_negotiate.specs.declared.protocol.NegotiatedProtocol.TheVariants as hands
use Rattle.sspi_negotiate.specs.Hand.{hand}
use Rattle.sspi_credssp.specs.declared.context.SspiContext.TheVariants as contexts
use Rattle.sspi_credssp.specs.Context.{either}
use Rattle.sspi_credssp.specs.declared.turn.Turn.{Turn}
use Rattle.sspi_credssp.specs.Acts.{OpensIn}
use Rattle.sspi_credssp.specs.Context.{ContextSetting}
use Rattle.sspi_play.specs.Clear.{OpensBehindTag, behind_tag, shown_texts}
use Rattle.sspi_play.specs.Faithful.{where_done, IsOpened, HaveOpened}

module _ {N K : Type 0} (n : Meaning Setting N) (k : Meaning Setting K) (of_n : OpensBehindTag n) (of_k : OpensBehindTag k) where
  hand_opens : (m : NegotiatedProtocol N K) (i : ℕ) (blob text : List ℕ) → (hand n k).opens m i blob text → text ≡ drop 16 blob
  hand_opens (hands.Ntlm m) i blob text opens = of_n m i blob text opens
  hand_opens (hands.Kerberos m) i blob text opens = of_k m i blob text opens

  pub context_opens : (requests : ℕ) → OpensBehindTag (either requests n k)
  context_opens requests (contexts.Negotiate s) i blob text opens = hand_opens s.mech i blob text opens
  context_opens requests (contexts.Ntlm m) i blob text opens = of_n m i blob text opens
  context_opens requests (contexts.Kerberos m) i blob text opens = of_k m i blob text opens

pub plain_opens : (requests : ℕ) → OpensBehindTag (either requests ntlm_meaning kerberos_meaning)
plain_opens = context_opens ntlm_meaning kerberos_meaning ntlm.opened_is_body kerberos.opened_is_body

module _ {C : Type 0} (c : Meaning ContextSetting C) (law : OpensBehindTag c) (context : Option C) where
  shown : (was : Bool) (n : ℕ) (field : Option (List ℕ)) (texts : List (List ℕ)) → IsOpened c context was n field texts →
      texts ≡ where_done was (behind_tag field)
  shown false n field texts h = h
  shown true n field texts h = h.2 ∙ text_shown context field h.0 h.1
    where
      text_shown : (context : Option C) (field : Option (List ℕ)) (text : List ℕ) → OpensIn c context n field text →
          text ∷ [] ≡ behind_tag field
      text_shown None field text opens = absurd opens
      text_shown (Some m) None text opens = absurd opens
      text_shown (Some m) (Some blob) text opens = ap (λ (x : List ℕ). x ∷ []) (law m n blob text opens)

  pub opens_what_is_shown : (turns : List Turn) (texts : List (List ℕ)) → HaveOpened c context turns texts → texts ≡ shown_texts turns
  opens_what_is_shown [] texts h = h
  opens_what_is_shown (t ∷ past) texts h =
      let more = h.2 in
      let before = opens_what_is_shown past h.0 h.1 in
      let proof = shown t.acts.checked _ t.delivered.pub_key_auth more.proof more.proof_is in
      let credentials = shown t.acts.opened _ t.delivered.auth_info more.credentials more.credentials_are in
      more.all ∙ (rw (proof, credentials, before) refl)
