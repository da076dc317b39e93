-- A filling over a connection that was taken out.
use Rattle.std.proofs.Common.{◌≡◌, ℕ, false, refl, sym, ◌∙◌, subst, Result}
use Rattle.std.specs.Prelude.{⊤, IfSome}
use Rattle.std.proofs.lemmas.Option.{IfSome_then}
use Rattle.activities.specs.Service.{Service}
use Rattle.stomp_client.specs.Clients.{ClientWithRoom}
use Rattle.stomp_client.specs.declared.session.Stage.TheVariants.{Connected}
use Rattle.keep.specs.Failing.{Failing, through}
use Rattle.keep.specs.Law.{Reads}
use Rattle.keep.specs.Seen.{Seen}
use Rattle.keep.specs.Tables.{Tables}
use Rattle.endpoint.specs.Calls.{Stays}
use Rattle.schedule_mail.specs.Mails.{Mail}
use Rattle.relay.specs.Calls.{Fills, idle_answer, store_end}
use Rattle.relay.specs.Filling.{send_state}
use Rattle.relay.specs.Knowing.{KnowsAll}
use Rattle.relay.specs.declared.fault.RelayFault.{RelayFault}
use Rattle.relay.specs.declared.relay.Relay.{Relay}
use Rattle.schedule_text.specs.declared.event.ConnectionNumber.{ConnectionNumber}
use Rattle.schedule_text.specs.declared.outcome.Outcome.{Outcome}
use Rattle.schedule_service.specs.SiteSteps.{SendsRows, with_store}
use Rattle.schedule_service.specs.Channels.{Meets, sending}
use Rattle.schedule_service.specs.Outcomes.{fill_told, fill_fate}
use Rattle.schedule_service.specs.declared.fate.ChannelFate.{ChannelFate}
use Rattle.schedule_service.specs.declared.site_channel.SiteChannel.{SiteChannel}
use Rattle.schedule_service.specs.declared.site.Site.{Site}

module _ {H K S C : Type 0} (seen : K → Seen (Tables S C)) (service : Service S C) (number : ConnectionNumber)
    (limit : ℕ) (l : SiteChannel)
    (outcome : Outcome) (s : Site H K S C) (from : Mail) (t : Site H K S C) (to : Mail) where
  pub sends_on : (later : Relay) (client : ClientWithRoom ℕ) (store : Failing K) (r : Result ℕ RelayFault)
      (fate : ChannelFate)
      → IfSome (idle_answer l.connection.channel.client.client.stage)
      (λ answer. (r ≡ answer) × (store ≡ s.endpoint) × (send_state later client ≡ sending l))
      → (l.connection.channel.client.client.stage ≡ Connected
      → Reads (through seen) s.endpoint store (λ _ _. ⊤) (store_end r))
      → Stays (through seen) s.endpoint store
      → ((through seen s.endpoint).usable ≡ false → send_state later client ≡ sending l)
      → (l.connection.channel.client.client.stage ≡ Connected
      → Fills (((seen store.keep).doubt ≡ 0) × KnowsAll service l.relay (seen s.endpoint.keep).may_leave)
      (seen s.endpoint.keep).tables.unsettled limit (sending l) (send_state later client) r)
      → ((seen store.keep).doubt ≡ 0 → KnowsAll service l.relay (seen s.endpoint.keep).may_leave
      → KnowsAll service later (seen store.keep).may_leave)
      → outcome ≡ fill_told r → fate ≡ fill_fate r → t.endpoint ≡ store
      → Meets fate number (record l {
        connection =
            record l.connection { channel = record l.connection.channel { client = client } };
        relay =
            later;
      }) (with_store store s) from t to
      → SendsRows seen service number limit l outcome s from t to
  sends_on later client store r fate idle reads keeps unused fills knows told fated stored meets =
      let last : SiteChannel = record l {
        connection =
            record l.connection { channel = record l.connection.channel { client = client } };
        relay = later;
      } in
      record {
        result = r;
        later = last;
        idle = IfSome_then (idle_answer l.connection.channel.client.client.stage) idle
            (λ answer h. (h.0, stored ∙ h.1, h.2));
        reads = λ is. subst (λ e. Reads (through seen) s.endpoint e (λ _ _. ⊤) (store_end r)) (sym stored) (reads is);
        keeps = subst (λ e. Stays (through seen) s.endpoint e) (sym stored) keeps;
        unused = unused;
        fills = λ is. subst (λ (e : Failing K). Fills (((seen e.keep).doubt ≡ 0)
            × KnowsAll service l.relay (seen s.endpoint.keep).may_leave) (seen s.endpoint.keep).tables.unsettled limit
            (sending l)
            (sending last) r) (sym stored) (fills is);
        knows = subst (λ (e : Failing K). (seen e.keep).doubt ≡ 0
            → KnowsAll service l.relay (seen s.endpoint.keep).may_leave
            → KnowsAll service later (seen e.keep).may_leave) (sym stored) knows;
        rest = refl;
        tells = told;
        meets = subst (λ f. Meets f number last (with_store t.endpoint s) from t to) fated
            (subst (λ e. Meets fate number last (with_store e s) from t to) (sym stored) meets);
      }
