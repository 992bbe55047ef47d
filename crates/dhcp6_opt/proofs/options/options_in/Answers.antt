-- Each turn takes the option at the front, if it reads. What reads fits.
use Rattle.std.proofs.Common.{sym, ◌∙◌}
use Rattle.dhcp_wire.specs.declared.raw_option.OptionFormat.TheVariants.{DhcpV6}
use Rattle.dhcp_wire.proofs.RawOptionLemmas.{raw_option_at-shorter}
use Rattle.dhcp6_opt.proofs.OptionListLemmas.{fit_push}
use Rattle.dhcp6_opt.proofs.OptionReadLemmas.{options_end, options_more, options_skipped}
use Rattle.dhcp6_opt.proofs.ValueLemmas.{fits-value_of}
use Rattle.dhcp6_opt.proofs.options.options_in.Goals as goal

pub loop-raw-smaller : goal.loop-raw-smaller
loop-raw-smaller c = raw_option_at-shorter DhcpV6 _ _ _ c.in-Some.ensures.found

pub loop-raw-smaller-in_ok-push : goal.loop-raw-smaller-in_ok-push
loop-raw-smaller-in_ok-push c = raw_option_at-shorter DhcpV6 _ _ _ c.in-Some.ensures.found

pub loop-raw-preserved-in_ok-push : goal.loop-raw-preserved-in_ok-push
loop-raw-preserved-in_ok-push c =
    let reads = sym c.in_ok-option.ensures ∙ c.in-Some-2.is in
    rw c.in_ok-push.ensures.items (record {
      read = options_more _ _ _ _ _ _ c.loop-raw.invariant.read c.in-Some.ensures.found reads;
      fit = fit_push _ _ c.loop-raw.invariant.fit (fits-value_of c.in-Some.raw.code _ _ reads);
    })

pub loop-raw-preserved : goal.loop-raw-preserved
loop-raw-preserved c = record {
  read = options_skipped _ _ _ _ _ c.loop-raw.invariant.read c.in-Some.ensures.found (sym c.in_ok-option.ensures ∙ c.in_default-2.is);
  fit = c.loop-raw.invariant.fit;
}

pub returns-clause-value : goal.returns-clause-value
returns-clause-value c = options_end _ _ _ c.loop-raw.invariant.read c.in_default.ensures.found
