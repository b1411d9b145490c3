use Rattle.routing.proofs.survey.survey_runs.Goals as goal

pub returns-clause-points_hold : goal.returns-clause-points_hold
returns-clause-points_hold g c = c.fill_board.ensures c.search.ensures
