-- A server's turn stays under way over a step of its context, and while the context only counts.
use Rattle.std.proofs.Common.{◌≡◌, ℕ, List, Some, refl, sym, ◌∙◌}
use Rattle.sspi_mech.specs.Context.{NeitherSealsNorOpens}
use Rattle.sspi_mech.specs.Meaning.{Meaning}
use Rattle.sspi_tsreq.specs.declared.request.TsRequest.{TsRequest}
use Rattle.sspi_credssp.specs.declared.acts.Acts.{Acts}
use Rattle.sspi_credssp.specs.declared.state.CredSspState.TheVariants.{NegoToken}
use Rattle.sspi_credssp.specs.Context.{ContextSetting}
use Rattle.sspi_credssp.specs.Ends.{ServerView}
use Rattle.sspi_credssp.specs.ServerStage.{IsReady}
use Rattle.sspi_credssp.proofs.ClientReady.{still_unspent}

module _ {C P : Type 0} (c : Meaning ContextSetting C) where
  pub ready_stepped : (start now : ServerView C P) (d : TsRequest) (m m2 : C) (acts : Acts) (output : List ℕ) (proxy : P) →
      IsReady c start d now → now.state ≡ NegoToken → now.context ≡ Some m →
      NeitherSealsNorOpens (c.counts m) (c.counts m2) →
      IsReady c start d (record now { context = Some m2; acts = acts; output = output; proxy = proxy })
  ready_stepped start now d m m2 acts output proxy ready nego here silent =
      record {
        same = ready.same;
        handle = λ h. ((ready.handle h).0, refl);
        state = ready.state;
        noted = ready.noted;
        fits = ready.fits;
        young = ready.young;
        passed = ready.passed;
        begun = refl;
        unspent = still_unspent c _ _ _ m m2 ready.unspent (sym ready.state ∙ nego) here silent;
      }
