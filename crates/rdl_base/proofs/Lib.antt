mod DerivedOrder
mod Reserved
mod RuleOrder
