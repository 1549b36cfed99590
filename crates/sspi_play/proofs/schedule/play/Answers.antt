use Rattle.sspi_credssp.proofs.ContextLaws.{lawful}
use Rattle.sspi_credssp.specs.Context.{either}
use Rattle.sspi_delegate.specs.Chain.{kdc_calls}
use Rattle.sspi_play.proofs.OnMechanism.{negotiates_if_faithful, verifies_first}
use Rattle.sspi_play.proofs.Runs.{is_play, agrees_if_faithful}
use Rattle.sspi_play.proofs.schedule.play.Goals as goal

pub returns-clause-plays : goal.returns-clause-plays
returns-clause-plays g c fresh =
    let m = either g.N.Mechanism.REQUESTS g.N.Mechanism.meaning g.K.Mechanism.meaning in
    let law = lawful _ _ g.N.Mechanism.meaning g.K.Mechanism.meaning g.met.N.Mechanism.laws g.met.K.Mechanism.laws in
    is_play m law g.C.CredentialsProxy.meaning (kdc_calls g.D.Kdc.told g.D.Kdc.asked g.D.Kdc.faults) _ _ _ c.hand_all.result
    fresh.client_is fresh.server_is (c.hand_all.ensures.accounts c.clear.ensures)

pub returns-clause-agrees : goal.returns-clause-agrees
returns-clause-agrees g c fresh =
    let m = either g.N.Mechanism.REQUESTS g.N.Mechanism.meaning g.K.Mechanism.meaning in
    let law = lawful _ _ g.N.Mechanism.meaning g.K.Mechanism.meaning g.met.N.Mechanism.laws g.met.K.Mechanism.laws in
    let accounts = c.hand_all.ensures.accounts c.clear.ensures in
    agrees_if_faithful m law g.C.CredentialsProxy.meaning (kdc_calls g.D.Kdc.told g.D.Kdc.asked g.D.Kdc.faults) _ _ _
    c.hand_all.result c.client_nonce-nonce.ensures.size fresh.server_is
    (is_play m law g.C.CredentialsProxy.meaning (kdc_calls g.D.Kdc.told g.D.Kdc.asked g.D.Kdc.faults) _ _ _ c.hand_all.result
    fresh.client_is fresh.server_is accounts) accounts

pub returns-clause-negotiates : goal.returns-clause-negotiates
returns-clause-negotiates g c fresh =
    let m = either g.N.Mechanism.REQUESTS g.N.Mechanism.meaning g.K.Mechanism.meaning in
    let law = lawful _ _ g.N.Mechanism.meaning g.K.Mechanism.meaning g.met.N.Mechanism.laws g.met.K.Mechanism.laws in
    let kdcs = kdc_calls g.D.Kdc.told g.D.Kdc.asked g.D.Kdc.faults in
    let accounts = c.hand_all.ensures.accounts c.clear.ensures in
    negotiates_if_faithful _ _ g.N.Mechanism.meaning g.K.Mechanism.meaning g.met.N.Mechanism.laws g.met.K.Mechanism.laws
    g.C.CredentialsProxy.meaning kdcs _ _ _ c.hand_all.result fresh.client_is fresh.server_is
    (is_play m law g.C.CredentialsProxy.meaning kdcs _ _ _ c.hand_all.result fresh.client_is fresh.server_is accounts) accounts

pub returns-clause-verifies : goal.returns-clause-verifies
returns-clause-verifies g c fresh =
    let m = either g.N.Mechanism.REQUESTS g.N.Mechanism.meaning g.K.Mechanism.meaning in
    let law = lawful _ _ g.N.Mechanism.meaning g.K.Mechanism.meaning g.met.N.Mechanism.laws g.met.K.Mechanism.laws in
    let kdcs = kdc_calls g.D.Kdc.told g.D.Kdc.asked g.D.Kdc.faults in
    let accounts = c.hand_all.ensures.accounts c.clear.ensures in
    verifies_first _ _ g.N.Mechanism.meaning g.K.Mechanism.meaning g.met.N.Mechanism.laws g.met.K.Mechanism.laws
    g.C.CredentialsProxy.meaning kdcs _ _ _ c.hand_all.result fresh.client_is fresh.server_is
    (is_play m law g.C.CredentialsProxy.meaning kdcs _ _ _ c.hand_all.result fresh.client_is fresh.server_is accounts) accounts
