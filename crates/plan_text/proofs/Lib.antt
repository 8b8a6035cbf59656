pub mod Laws
pub mod PlanLaws
