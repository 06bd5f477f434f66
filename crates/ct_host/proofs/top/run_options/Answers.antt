use Rattle.std.proofs.Common.{List, Option, None, IfOk, refl, sym, ap, ◌∙◌, subst}
use Rattle.ct_words.specs.declared.TestOptions.{TestOptions}
use Rattle.ct_host.specs.declared.stop.Told.{Told}
use Rattle.ct_host.specs.declared.stop.Why.{Why}
use Rattle.ct_words.specs.declared.Choice.{Choice}
use Rattle.ct_host.specs.Chosen.{chosen_tests}
use Rattle.ct_host.specs.Ends.{Hinders, HindersTests, RunsChosen}
use Rattle.ct_host.specs.Looking.{AreSuites, Suite, why_of}
use Rattle.ct_host.proofs.Ends.{hinders_files, hinders_tests, runs_tests, same_told}
use Rattle.ct_host.proofs.Inputs.{looked}
use Rattle.ct_host.proofs.top.run_options.Goals as goal

pub returns-in-Some-clause-told : goal.returns-in-Some-clause-told
returns-in-Some-clause-told g c = λ told e.
    let gives = g.D.Disk.gives c.args.disk.now in
    let are = looked gives c.args.options.now.files _ _ _ _ _ c.in_ok-suites.field-0.items.items _ _ _ _ _ (c.deref.ensures.value ∙ ap (λ (o : TestOptions). o.files) c.options.view_is)
    c.deref-2.ensures.value c.deref-3.ensures.value c.first_of.ensures c.first_of-2.ensures c.in_ok-loaded.ensures c.in_ok-sourced.ensures c.in_ok-suites.ensures in
    (refl, same_told (λ (t : Told). Hinders gives c.args.options.now t.why) c.in-Some.told told e (hinders_files gives c.args.options.now _ _ c.in-Some.told.why are (ap why_of c.in-Some.is)))

pub returns-clause-ended : goal.returns-clause-ended
returns-clause-ended g c =
    let gives = g.D.Disk.gives c.args.disk.now in
    let are = looked gives c.args.options.now.files _ _ _ _ _ c.in_ok-suites.field-0.items.items _ _ _ _ _ (c.deref.ensures.value ∙ ap (λ (o : TestOptions). o.files) c.options.view_is)
    c.deref-2.ensures.value c.deref-3.ensures.value c.first_of.ensures c.first_of-2.ensures c.in_ok-loaded.ensures c.in_ok-sourced.ensures c.in_ok-suites.ensures in
    let none = subst (λ (f : Option Why). AreSuites gives c.args.options.now.files c.in_ok-suites.field-0.items.items f) (ap why_of c.in-None.is) are in
    runs_tests gives c.args.options.now c.deref-in-None.result.now c.limits_of-limits.result _ _ c.run_suites.result
    (subst (λ (s : List Suite). AreSuites gives c.args.options.now.files s None) (sym c.deref-in-None.ensures.value) none) c.limits_of-limits.ensures
    (subst (λ (choice : Choice). IfOk c.run_suites.result (RunsChosen c.limits_of-limits.result choice (chosen_tests choice c.deref-in-None.result.now) (g.K.Sink.taken c.args.outputs.now.out) (g.K.Sink.taken c.run_suites.new.outputs.out)))
    (ap (λ (o : TestOptions). o.choice) c.options.view_is) c.run_suites.ensures.ended)

pub returns-clause-told : goal.returns-clause-told
returns-clause-told g c = λ told e.
    let gives = g.D.Disk.gives c.args.disk.now in
    let are = looked gives c.args.options.now.files _ _ _ _ _ c.in_ok-suites.field-0.items.items _ _ _ _ _ (c.deref.ensures.value ∙ ap (λ (o : TestOptions). o.files) c.options.view_is)
    c.deref-2.ensures.value c.deref-3.ensures.value c.first_of.ensures c.first_of-2.ensures c.in_ok-loaded.ensures c.in_ok-sourced.ensures c.in_ok-suites.ensures in
    let none = subst (λ (f : Option Why). AreSuites gives c.args.options.now.files c.in_ok-suites.field-0.items.items f) (ap why_of c.in-None.is) are in
    let hindered = c.run_suites.ensures.told told e in (
      hindered.0,
      hinders_tests gives c.args.options.now c.deref-in-None.result.now told.why (subst (λ (s : List Suite). AreSuites gives c.args.options.now.files s None) (sym c.deref-in-None.ensures.value) none)
          (subst (λ (choice : Choice). HindersTests choice (chosen_tests choice c.deref-in-None.result.now) told.why) (ap (λ (o : TestOptions). o.choice) c.options.view_is) hindered.1),
    )
